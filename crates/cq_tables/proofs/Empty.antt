-- Tables without rows.
use Rattle.std.proofs.Common.{◌≡◌, ℕ, Bool, List, [], Option, refl, sym, ◌∙◌, arith}
use Rattle.std.proofs.lemmas.Bool.{false≢true}
use Rattle.std.proofs.lemmas.Option.{none-some}
use Rattle.cq_tables.specs.Content.{made_of, live_of, IsWhole}
use Rattle.cq_tables.specs.Places.{start_of}
use Rattle.cq_tables.specs.Tables.{content, IsLaid}
use Rattle.cq_tables.proofs.Stored.{cell_unmade}

pub IsWhole-empty : (e : ℕ) (keys : List (ℕ × ℕ)) (kinds : List ℕ) (alive : List Bool) (cells : List (Option ℕ)) → kinds ≡ [] → alive ≡ [] → IsWhole (content e keys kinds alive cells)
unfolding made_of live_of
IsWhole-empty e keys kinds alive cells ek ea = rw (ek, ea) (record {
  made = λ r l. absurd (false≢true l);
  kind = λ r l. absurd (omega arith);
  filled = λ r k s h. absurd (none-some s (sym (cell_unmade e keys [] [] cells r k (omega arith)) ∙ h));
  held = λ r k s l h. absurd (false≢true l);
})

pub IsLaid-empty : (keys : List (ℕ × ℕ)) (kinds : List ℕ) (alive : List Bool) (starts : List ℕ) (cells : List (Option ℕ)) (counts : List ℕ)
    → kinds ≡ [] → alive ≡ [] → starts ≡ [] → cells ≡ [] → counts ≡ [] → IsLaid keys kinds alive starts cells counts
unfolding start_of
IsLaid-empty keys kinds alive starts cells counts ek ea es ec en = rw (ek, ea, es, ec, en) (record {
  one_flag = refl;
  one_start = refl;
  one_count = refl;
  all = refl;
  begins = λ r h. absurd (omega arith);
  fits = omega arith;
})
