use Rattle.std.proofs.Common.{Bool, true, false, List, [], ◌∷◌, Option, Some, ◌≡◌, refl, sym, ap, ◌∙◌}
use Rattle.std.specs.Prelude.{cond, find}
use Rattle.std.specs.Cmp.Lexicographic.{bytes_decides}
use Rattle.std.specs.Str.{bytes_eq}
use Rattle.cq_base.proofs.shared.SharedTexts.name.Goals as goal

-- what is found passes the test
found-passes : {X : Type 0} (p : X → Bool) (xs : List X) (y : X) → find p xs ≡ Some y → p y ≡ true
found-passes {X = X} p [] y h = cc
found-passes {X = X} p (x ∷ xs) y h = at_test (p x) _ refl (found-passes p xs y) h
  where
    at_test : (b : Bool) (rest : Option X) → p x ≡ b → (rest ≡ Some y → p y ≡ true) → cond b (Some x) rest ≡ Some y → p y ≡ true
    at_test true rest is later h' = let same : x ≡ y = cc in ap p (sym same) ∙ is
    at_test false rest is later h' = later h'

pub returns-in-Some-clause-ok : goal.returns-in-Some-clause-ok
returns-in-Some-clause-ok c =
    c.in_ok-clone.ensures.cases ∙ sym ((bytes_decides c.args.text.now c.in-Some.shared.now).0
    (found-passes (bytes_eq c.args.text.now) c.args.self.now.texts.keys c.in-Some.shared.now (sym c.in-Some.ensures.key)))
