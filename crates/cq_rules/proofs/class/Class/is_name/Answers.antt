use Rattle.std.proofs.Common.{refl, inl, inr}
use Rattle.cq_rules.proofs.class.Class.is_name.Goals as goal

pub returns-in-Literal : goal.returns-in-Literal
returns-in-Literal c = let h = c.in-Literal.is in elim h [ inl e ↦ rw e refl | inr h ↦ elim h [ inl e ↦ rw e refl | inr h ↦ elim h [ inl e ↦ rw e refl | inr h ↦ elim h [ inl e ↦ rw e refl | inr h ↦ elim h [ inl e ↦ rw e refl | inr h ↦ elim h [ inl e ↦ rw e refl | inr h ↦ elim h [ inl e ↦ rw e refl | inr h ↦ elim h [ inl e ↦ rw e refl | inr h ↦ elim h [ inl e ↦ rw e refl | inr h ↦ elim h [ inl e ↦ rw e refl | inr h ↦ elim h [ inl e ↦ rw e refl | inr h ↦ elim h [ inl e ↦ rw e refl | inr h ↦ elim h [ inl e ↦ rw e refl | inr h ↦ elim h [ inl e ↦ rw e refl | inr h ↦ elim h [ inl e ↦ rw e refl | inr h ↦ elim h [ inl e ↦ rw e refl | inr h ↦ elim h [ inl e ↦ rw e refl | inr h ↦ elim h [ inl e ↦ rw e refl | inr h ↦ elim h [ inl e ↦ rw e refl | inr h ↦ elim h [ inl e ↦ rw e refl | inr h ↦ elim h [ inl e ↦ rw e refl | inr h ↦ elim h [ inl e ↦ rw e refl | inr h ↦ elim h [ inl e ↦ rw e refl | inr h ↦ elim h [ inl e ↦ rw e refl | inr h ↦ elim h [ inl e ↦ rw e refl | inr h ↦ elim h [ inl e ↦ rw e refl | inr h ↦ elim h [ inl e ↦ rw e refl | inr h ↦ elim h [ inl e ↦ rw e refl | inr h ↦ elim h [ inl e ↦ rw e refl | inr h ↦ elim h [ inl e ↦ rw e refl | inr h ↦ elim h [ inl e ↦ rw e refl | inr h ↦ elim h [ inl e ↦ rw e refl | inr h ↦ elim h [ inl e ↦ rw e refl | inr h ↦ elim h [ inl e ↦ rw e refl | inr h ↦ rw h refl ] ] ] ] ] ] ] ] ] ] ] ] ] ] ] ] ] ] ] ] ] ] ] ] ] ] ] ] ] ] ] ] ] ]
