-- The first field of a record that was read.
use Rattle.std.proofs.Common.{ℕ, zero, suc, List, [], ◌∷◌, ◌++◌, Option, Some, None, Result, Ok, Err, IfOk, ◌≡◌, refl, sym, ap, subst, ◌∙◌}
use Rattle.std.specs.Prelude.{slice_index_or}
use Rattle.std.specs.Option.{option_map}
use Rattle.csv.specs.Machine.{Read}
use Rattle.cq_origin.specs.Records.{AreFound, IsFound, id_in}
use Rattle.cq_origin.specs.declared.records.FoundRecord.{FoundRecord}

pub id_is : (o : Option Read) (fields : List (List ℕ)) → Some fields ≡ option_map (λ (p : Read). p.0) o → slice_index_or fields 0 [] ≡ id_in o
id_is None fields is = cc
id_is (Some p) fields is = let same : fields ≡ p.0 = cc in ap (λ (f : List (List ℕ)). slice_index_or f 0 []) same

pub no_id : {A : Type 0} (o : Option Read) (n : Option A) (f : A → List (List ℕ)) → n ≡ None → option_map f n ≡ option_map (λ (p : Read). p.0) o → id_in o ≡ []
no_id None n f none is = refl
no_id (Some p) None f none is = cc
no_id (Some p) (Some x) f none is = cc

-- one record more is found
pub found_more : (text : List ℕ) (found : List FoundRecord) (one : FoundRecord) → AreFound text found → IsFound text one → AreFound text (found ++ one ∷ [])
found_more text [] one each is zero x at = let same : one ≡ x = cc in subst (IsFound text) same is
found_more text [] one each is (suc n) x at = cc
found_more text (y ∷ found) one each is zero x at = each 0 x at
found_more text (y ∷ found) one each is (suc n) x at = found_more text found one (λ m z h. each (suc m) z h) is n x at
