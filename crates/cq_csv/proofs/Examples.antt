-- The files of some instances, written out.
use Rattle.std.proofs.Common.{[], ◌∷◌, ◌≡◌, refl}
use Rattle.std.specs.Prelude.{codes}
use Rattle.std.specs.Fmt.{digits}
use Rattle.csv.specs.Writing.{escaped, fields_text, is_blank}
use Rattle.cq_theory.proofs.Values.{fold-Const, fold-Null, fold-Fun}
use Rattle.cq_text.proofs.Examples.{built, employees, merged, open_text, two_nulls}
use Rattle.cq_csv.specs.Files.{files_of}

employees_files : files_of (codes "I") employees ≡
    (codes "I/Employee.csv", codes "id,first,last,age,cummulative_age,manager,worksIn\n1,Al,?0,zero,?1,2,1\n2,Bob,Bo,?2,?3,2,1\n3,Carl,?4,zero,?5,3,2\n")
    ∷ (codes "I/Department.csv", codes "id,name,secretary\n1,Math,2\n2,CS,3\n")
    ∷ (codes "I/entries-2.csv", codes "format-2,left,right\nnull,?0,string\nnull,?1,nat\nnull,?2,nat\nnull,?3,nat\nnull,?4,string\nnull,?5,nat\nentry,\"plus(zero, ?2)\",?1\nentry,\"plus(?2, ?2)\",?3\nentry,\"plus(zero, zero)\",?5\n")
    ∷ []
unfolding digits escaped fields_text is_blank
employees_files = simp (fold-Const, fold-Null)

two_nulls_files : files_of (codes "I") two_nulls ≡
    (codes "I/E.csv", codes "id,x\n1,?0\n2,?1\n")
    ∷ (codes "I/entries-2.csv", codes "format-2,left,right\nnull,?0,s\nnull,?1,s\n")
    ∷ []
unfolding digits escaped fields_text is_blank
two_nulls_files = refl

built_files : files_of (codes "J1") built ≡ (codes "J1/E.csv", codes "id,x\n1,\"=plus(zero, zero)\"\n") ∷ (codes "J1/entries-2.csv", codes "format-2,left,right\n") ∷ []
unfolding digits escaped fields_text is_blank
built_files = simp (fold-Const, fold-Fun)

merged_files : files_of (codes "I") merged ≡ (codes "I/entries-2.csv", codes "format-2,left,right\nnull,?0,s\nentry,h(Al),?0\nentry,h(Bob),?0\n") ∷ []
unfolding digits escaped fields_text is_blank
merged_files = simp (fold-Const, fold-Null)

open_files : files_of (codes "I") open_text ≡ (codes "I/E.csv", codes "id,x\n1,Al\n2,Zed\n") ∷ (codes "I/entries-2.csv", codes "format-2,left,right\n") ∷ []
unfolding digits escaped fields_text is_blank
open_files = refl
