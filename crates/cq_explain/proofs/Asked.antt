-- From what each step of reading a question answers to the equation that is asked about.
use Rattle.std.proofs.Common.{◌≡◌, ◌∙◌, ◌||◌, ℕ, Bool, true, false, not, List, Option, Some, None, refl, sym, ap, subst}
use Rattle.std.specs.Prelude.{is_some, if◌then◌else◌, IfOk, Result, Ok, Err}
use Rattle.cq_base.specs.declared.name.Name.{Name}
use Rattle.cq_base.specs.declared.raw.Raw.{Raw}
use Rattle.cq_theory.specs.declared.refusal.TermRefusal.{TermRefusal}
use Rattle.cq_theory.specs.declared.presentation.Equation.{Equation}
use Rattle.cq_theory.specs.declared.presentation.Presentation.{Presentation}
use Rattle.cq_theory.specs.declared.presentation.Sort.{Sort}
use Rattle.cq_theory.specs.declared.term.Term.{Term}
use Rattle.cq_theory.specs.Parts.{equation_of}
use Rattle.cq_theory.specs.declared.refusal.TermRefusal.TheVariants.{Unknown, WrongCount, WrongSort, Reserved, TooLarge}
use Rattle.cq_theory.specs.Resolve.{equation_fault, has_unknown, has_wrong_count, has_reserved, raw_sort, are_of_one_sort, is_too_large}
use Rattle.cq_theory.specs.Resolved.{resolved}
use Rattle.cq_theory.specs.SchemaData.{SchemaData as Schema}
use Rattle.cq_theory.specs.Sorts.{Generators}
use Rattle.cq_terms.specs.Generators.{names_of, sorts_of}
use Rattle.cq_scope.specs.Firsts.{AreFirsts}
use Rattle.cq_scope.proofs.Over.{has_unknown_over, raw_sort_over}
use Rattle.cq_explain.specs.Question.{Asks, IsTextOfTerm, Makes}
use Rattle.cq_explain.specs.declared.refusal.QuestionRefusal.{QuestionRefusal}

none_of : (o : Option TermRefusal) → is_some o ≡ false → o ≡ None
none_of None h = refl
none_of (Some r) h = cc

-- the same fault by the first generators of their names
fault_over : (S : Schema) (G : Generators) (left right : Raw) (names : List Name) (sorts : List Sort) (numbers : List ℕ) → AreFirsts G names sorts numbers
    → equation_fault S (names_of G) (sorts_of G) (left, right) ≡ equation_fault S names sorts (left, right)
fault_over S G left right names sorts numbers firsts =
    let unknown : has_unknown S (names_of G) ≡ has_unknown S names = sym (has_unknown_over S G names sorts numbers firsts) in
    let sort : raw_sort S (names_of G) (sorts_of G) ≡ raw_sort S names sorts = sym (raw_sort_over S G names sorts numbers firsts) in
    λ i. if unknown i left || unknown i right then Some Unknown
    else (if has_wrong_count S left || has_wrong_count S right then Some WrongCount
    else (if not (are_of_one_sort (sort i left) (sort i right)) then Some WrongSort
    else (if has_reserved S left || has_reserved S right then Some Reserved
    else (if is_too_large left || is_too_large right then Some TooLarge
    else None))))

-- the fault that was found, over the generators
found_over : (S : Schema) (G : Generators) (left right : Raw) (names : List Name) (sorts sorts' : List Sort) (numbers : List ℕ) (broken : Bool) → AreFirsts G names sorts numbers → sorts' ≡ sorts
    → broken ≡ is_some (equation_fault S names sorts' (left, right)) → is_some (equation_fault S (names_of G) (sorts_of G) (left, right)) ≡ broken
found_over S G left right names sorts sorts' numbers broken firsts sorts_are is =
    ap is_some (fault_over S G left right names sorts numbers firsts) ∙ ap (λ (ss : List Sort). is_some (equation_fault S names ss (left, right))) (sym sorts_are) ∙ sym is

-- no equation is made of terms that break a rule
pub broken_makes_none : (S : Schema) (G : Generators) (left right : Raw) (names : List Name) (sorts sorts' : List Sort) (numbers : List ℕ) (broken : Bool) (e : Equation)
    → AreFirsts G names sorts numbers → sorts' ≡ sorts → broken ≡ is_some (equation_fault S names sorts' (left, right)) → broken ≡ true
    → Makes S G left right e → ⊥
broken_makes_none S G left right names sorts sorts' numbers broken e firsts sorts_are is true_is makes =
    let some : is_some (equation_fault S (names_of G) (sorts_of G) (left, right)) ≡ true = found_over S G left right names sorts sorts' numbers broken firsts sorts_are is ∙ true_is in
    let bad : is_some (equation_fault S (names_of G) (sorts_of G) (left, right)) ≡ false = ap is_some makes.faultless in
    absurd (cc (some, bad))

-- the equation that was made
pub makes_it : (S : Schema) (G : Generators) (left right : Raw) (names : List Name) (sorts sorts' : List Sort) (numbers : List ℕ) (broken : Bool) (t u : Term) (e : Equation)
    → AreFirsts G names sorts numbers → sorts' ≡ sorts → broken ≡ is_some (equation_fault S names sorts' (left, right)) → broken ≡ false
    → t ≡ resolved S (names_of G) (sorts_of G) left → u ≡ resolved S (names_of G) (sorts_of G) right → e ≡ equation_of t u → Makes S G left right e
makes_it S G left right names sorts sorts' numbers broken t u e firsts sorts_are is false_is t_is u_is e_is = record {
  faultless = none_of (equation_fault S (names_of G) (sorts_of G) (left, right)) (found_over S G left right names sorts sorts' numbers broken firsts sorts_are is ∙ false_is);
  equation = e_is ∙ (λ i. equation_of (t_is i) (u_is i));
}

-- two terms make one equation
pub one_made : (S : Schema) (G : Generators) (left right : Raw) (d e : Equation) → Makes S G left right d → Makes S G left right e → d ≡ e
one_made S G left right d e made makes = made.equation ∙ sym makes.equation

-- terms that texts spell, and the equation that they make
pub asked_makes : (S : Schema) (P : Presentation) (G : Generators) (left right : List ℕ) (t u : Raw) (e : Equation) → G ≡ P.generators
    → ((other : Raw) → IsTextOfTerm left other → t ≡ other) → ((other : Raw) → IsTextOfTerm right other → u ≡ other)
    → Asks S P left right e → Makes S G t u e
asked_makes S P G left right t u e G_is t_only u_only asks =
    subst (λ (H : Generators). Makes S H t u e) (sym G_is)
    (subst (λ (s : Raw). Makes S P.generators s u e) (sym (t_only asks.left_term asks.left_spelled))
    (subst (λ (s : Raw). Makes S P.generators asks.left_term s e) (sym (u_only asks.right_term asks.right_spelled)) asks.makes))

pub makes_asked : (S : Schema) (P : Presentation) (G : Generators) (left right : List ℕ) (t u : Raw) (result : Result Equation QuestionRefusal) → G ≡ P.generators
    → IsTextOfTerm left t → IsTextOfTerm right u → IfOk result (Makes S G t u) → IfOk result (Asks S P left right)
makes_asked S P G left right t u (Err refusal) G_is t_is u_is makes = tt
makes_asked S P G left right t u (Ok e) G_is t_is u_is makes = record {
  left_term = t;
  left_spelled = t_is;
  right_term = u;
  right_spelled = u_is;
  makes = subst (λ (H : Generators). Makes S H t u e) G_is makes;
}
