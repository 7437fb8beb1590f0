-- Files at the end of a list.
use Rattle.std.proofs.Common.{◌≡◌, ◌++◌, ◌∷◌, [], ℕ, List, map, ap, ◌∙◌}
use Rattle.std.proofs.lemmas.List.{map-append}
use Rattle.cq_io.specs.Content.{File}

-- what is shown of a list, and of what was appended to it
pub appended : {A B : Type 0} (f : A → B) (now old own : List A) (shown : List B) → now ≡ old ++ own → map f own ≡ shown → map f now ≡ map f old ++ shown
appended {B = B} f now old own shown is own_is = rw is (map-append f old own ∙ ap (λ (l : List B). map f old ++ l) own_is)

abbrev pub single : List ℕ → List ℕ → List File
single name text = (name, text) ∷ []

-- one file
pub one_file : (name text name' text' : List ℕ) → name ≡ name' → text ≡ text' → single name text ≡ single name' text'
one_file name text name' text' names texts = ap (λ (n : List ℕ). single n text) names ∙ ap (λ (t : List ℕ). single name' t) texts

-- what is shown of one thing is what is shown of the same thing
pub through : {I B : Type 0} (shows : I → B) (shown : B) (before now : I) → shown ≡ shows before → before ≡ now → shown ≡ shows now
through shows shown before now is same = is ∙ ap shows same
