-- The literal of a presentation with numbered generators is one declaration, whose parts are those of the presentation.
use Rattle.std.proofs.Common.{ℕ, suc, List, [], ◌∷◌, ◌++◌, Option, Some, None, ◌≡◌, ◌≤◌, ◌+◌, append_assoc, append-nil, map, length, refl, sym, ap, subst, ◌∙◌, arith}
use Rattle.std.specs.Prelude.{codes, decimal, option_map, slice_get}
use Rattle.std.specs.List.{enumerate_from, flat_map}
use Rattle.std.proofs.lemmas.List.{length-map}
use Rattle.std.proofs.lemmas.List.FromFn.{length-enumerate_from}
use Rattle.std.proofs.lemmas.Option.{slice_get-get_or}
use Rattle.cq_base.specs.declared.name.Name.{Name}
use Rattle.cq_rules.specs.Relations.{Each}
use Rattle.cq_rules.specs.Rule.{FitEach, Fits, Spells, most_levels}
use Rattle.cq_rules.specs.Tree.{levels}
use Rattle.cq_syntax.specs.Grammar.{declaration, equation, group, instance, instance_literal, name, options, placed_term, setting, spot}
use Rattle.cq_syntax.specs.Terms.{tree_of}
use Rattle.cq_syntax.specs.declared.literal.InstanceLit.{InstanceLit}
use Rattle.cq_syntax.specs.declared.part.EqSyn.{EqSyn}
use Rattle.cq_syntax.specs.declared.part.GroupSyn.{GroupSyn}
use Rattle.cq_syntax.specs.declared.part.Opt.{Opt}
use Rattle.cq_syntax.specs.declared.part.Spot.{Spot}
use Rattle.cq_syntax.specs.declared.program.Body.TheVariants.{Instance}
use Rattle.cq_syntax.specs.declared.program.Decl.{Decl}
use Rattle.cq_syntax.specs.declared.program.InstanceExp.TheVariants.{Literal}
use Rattle.cq_theory.specs.declared.presentation.Equation.{Equation}
use Rattle.cq_theory.specs.declared.presentation.Equation.TheVariants.{Ent, Typ}
use Rattle.cq_theory.specs.declared.presentation.Presentation.{Presentation}
use Rattle.cq_theory.specs.declared.presentation.Sort.{Sort}
use Rattle.cq_theory.specs.declared.presentation.Sort.TheVariants.{Plain, Entity}
use Rattle.cq_theory.specs.Canonical.{named}
use Rattle.cq_theory.specs.Presentation.{IsEquation, IsPresentation, IsSort}
use Rattle.cq_theory.specs.SchemaData.{SchemaData as Schema}
use Rattle.cq_theory.specs.Sorts.{entity_of, type_of}
use Rattle.cq_theory.proofs.Every.{Every, Every-from_All}
use Rattle.cq_theory.proofs.OnValues.{All_at}
use Rattle.cq_text.specs.Literal.{equation_line, generator_line, generator_text, presentation_lines, sort_text}
use Rattle.cq_text.specs.Transcript.{line, name_or_empty}
use Rattle.cq_return.specs.Literals.{HasContents, HasFewLevels, IsDeclaration, equation_part, group_parts}
use Rattle.cq_return.specs.WrittenTerms.{ArePlainNames, IsPlainName, entity_raw, equation_raws, generator_part, type_raw}
use Rattle.cq_return.proofs.Declared.{IsDecl, declaration_printed}
use Rattle.cq_return.proofs.Lines.{equation_printed, group_printed}
use Rattle.cq_return.proofs.Pieces.{generator_plain}
use Rattle.cq_return.proofs.PrintedTerms.{entity_printed, type_printed}
use Rattle.cq_return.proofs.Prints.{Any, Meet, PrintEach, Prints, each, same_bytes}

abbrev numbered : ℕ × Sort → Name × Sort
numbered p = (codes "g" ++ decimal p.0, p.1)

regrouped : (a n e l c s o b g gs q es z : List ℕ) → a ++ (n ++ (e ++ (l ++ (c ++ (s ++ ((o ++ b) ++ (((g ++ gs) ++ ((q ++ es) ++ [])) ++ z)))))))
    ≡ (((((((a ++ n) ++ ((e ++ l) ++ c)) ++ s) ++ o) ++ b) ++ (((g ++ gs) ++ q) ++ es)) ++ z)
regrouped a n e l c s o b g gs q es z = simp (append_assoc, append-nil)

entity_some : (o : Option ℕ) (sort : Sort) → option_map Entity o ≡ Some sort → (e : ℕ) × (o ≡ Some e)
entity_some None sort h = cc
entity_some (Some e) sort h = (e, refl)

type_some : (o : Option ℕ) (sort : Sort) → option_map Plain o ≡ Some sort → (type : ℕ) × (o ≡ Some type)
type_some None sort h = cc
type_some (Some type) sort h = (type, refl)

module _ (S : Schema) (plain : ArePlainNames S) where
  sort_plain : (sort : Sort) → IsSort S sort → IsPlainName (sort_text S sort)
  sort_plain (Plain type) within =
      let there = slice_get-get_or S.typeside.types type [] within in
      subst IsPlainName (sym (ap name_or_empty there)) (All_at IsPlainName S.typeside.types type _ plain.types there)
  sort_plain (Entity entity) within =
      let there = slice_get-get_or S.entities entity [] within in
      subst IsPlainName (sym (ap name_or_empty there)) (All_at IsPlainName S.entities entity _ plain.entities there)

  abbrev IsGroupOf : Name × Sort → GroupSyn → Type 0
  IsGroupOf g x = group_parts x ≡ generator_part S g ∷ []

  abbrev IsEquationOf : Equation → EqSyn → Type 0
  IsEquationOf e x = (x.left.raw ≡ (equation_raws S e).0) × (x.right.raw ≡ (equation_raws S e).1)

  generators_printed : (sorts : List Sort) (s : ℕ) → s + length sorts ≤ 16000000 → Every (λ (g : Name × Sort). IsSort S g.1) (map numbered (enumerate_from (s + 1) sorts))
      → PrintEach (Spells group) IsGroupOf (generator_line S) (map numbered (enumerate_from (s + 1) sorts))
  generators_printed [] s few each = tt
  generators_printed (sort ∷ sorts) s few each = (
    group_printed (generator_text s) (sort_text S sort) (generator_plain s (omega arith)) (sort_plain sort each.0),
    generators_printed sorts (s + 1) (omega arith) each.1,
  )

  module _ (P : Presentation) (few : length P.generators ≤ 16000000) where
    one_equation : (e : Equation) → IsEquation S P e → HasContents S e → Prints Any (Spells equation) (IsEquationOf e) (equation_line S e)
    one_equation (Ent t u) is contents =
        let first = entity_some (entity_of S P.generators t) is.sort is.left in
        let second = entity_some (entity_of S P.generators u) is.sort is.right in
        equation_printed (entity_raw S t) (entity_raw S u) _ _ (entity_printed S plain P.generators few t first.0 first.1) (entity_printed S plain P.generators few u second.0 second.1)
    one_equation (Typ t u) is contents =
        let first = type_some (type_of S P.generators t) is.sort is.left in
        let second = type_some (type_of S P.generators u) is.sort is.right in
        equation_printed (type_raw S t) (type_raw S u) _ _ (type_printed S plain P.generators few t first.0 first.1 contents.0) (type_printed S plain P.generators few u second.0 second.1 contents.1)

    equations_printed : (es : List Equation) → ((n : ℕ) (e : Equation) → slice_get es n ≡ Some e → IsEquation S P e) → ((n : ℕ) (e : Equation) → slice_get es n ≡ Some e → HasContents S e)
        → PrintEach (Spells equation) IsEquationOf (equation_line S) es
    equations_printed [] are contents = tt
    equations_printed (e ∷ es) are contents =
        (one_equation e (are 0 e refl) (contents 0 e refl), equations_printed es (λ n x at. are (suc n) x at) (λ n x at. contents (suc n) x at))

  -- the parts of what is spelled
  groups_give : (G : List (Name × Sort)) (gs : List GroupSyn) → Meet (Spells group) IsGroupOf (generator_line S) G gs → flat_map group_parts gs ≡ map (generator_part S) G
  groups_give [] [] meet = refl
  groups_give [] (g ∷ gs) meet = absurd meet
  groups_give (x ∷ G) [] meet = absurd meet
  groups_give (x ∷ G) (g ∷ gs) meet = let one = meet.0 in let others = groups_give G gs meet.1 in λ j. one j ++ others j

  equations_give : (E : List Equation) (es : List EqSyn) → Meet (Spells equation) IsEquationOf (equation_line S) E es → map equation_part es ≡ map (equation_raws S) E
  equations_give [] [] meet = refl
  equations_give [] (e ∷ es) meet = absurd meet
  equations_give (x ∷ E) [] meet = absurd meet
  equations_give (x ∷ E) (e ∷ es) meet = let one = meet.0 in let others = equations_give E es meet.1 in λ j. (one.0 j, one.1 j) ∷ others j

  -- and that they fit
  spots_fit : (xs : List Spot) → FitEach (Fits spot) xs
  unfolding spot
  spots_fit [] = tt
  spots_fit (x ∷ xs) = (tt, spots_fit xs)

  one_group_fits : (g : GroupSyn) → Fits group g
  unfolding group name
  one_group_fits g = (spots_fit g.names, tt)

  groups_fit : (gs : List GroupSyn) → FitEach (Fits group) gs
  groups_fit [] = tt
  groups_fit (g ∷ gs) = (one_group_fits g, groups_fit gs)

  one_equation_fits : (e : Equation) (x : EqSyn) → IsEquationOf e x → HasFewLevels S e → Fits equation x
  unfolding equation placed_term most_levels
  one_equation_fits e x is few = (
    subst (λ r. levels (tree_of r) ≤ 64) (sym is.0) few.0,
    subst (λ r. levels (tree_of r) ≤ 64) (sym is.1) few.1,
  )

  equations_fit : (E : List Equation) (es : List EqSyn) → Meet (Spells equation) IsEquationOf (equation_line S) E es → ((n : ℕ) (e : Equation) → slice_get E n ≡ Some e → HasFewLevels S e)
      → FitEach (Fits equation) es
  equations_fit [] [] meet few = tt
  equations_fit [] (e ∷ es) meet few = absurd meet
  equations_fit (x ∷ E) [] meet few = absurd meet
  equations_fit (x ∷ E) (e ∷ es) meet few = (one_equation_fits x e meet.0 (few 0 x refl), equations_fit E es meet.1 (λ n y at. few (suc n) y at))

  no_options_fit : (xs : List Opt) → xs ≡ [] → FitEach (Fits setting) xs
  no_options_fit [] none = tt
  no_options_fit (x ∷ xs) none = cc

  literal_fits : (lit : InstanceLit) → FitEach (Fits group) lit.generators → FitEach (Fits equation) lit.equations → FitEach (Fits setting) lit.options → Fits instance_literal lit
  unfolding instance_literal options spot
  literal_fits lit gs es none = (tt, (gs, (es, none)))

  declaration_fits : (d : Decl) (lit : InstanceLit) → d.body ≡ Instance (Literal lit) → Fits instance_literal lit → Fits declaration d
  unfolding declaration instance spot
  declaration_fits d lit is fits =
      subst (λ b. Fits declaration (record { place = d.place; name = d.name; name_place = d.name_place; body = b })) (sym is) (tt, fits)

  module _ (sorts : List Sort) (equations : List Equation) (is : IsPresentation S (record { generators = named sorts; equations = equations }))
      (contents : (n : ℕ) (e : Equation) → slice_get equations n ≡ Some e → HasContents S e) (shallow : (n : ℕ) (e : Equation) → slice_get equations n ≡ Some e → HasFewLevels S e)
      (name_is schema_is : Name) (plain_name : IsPlainName name_is) (plain_schema : IsPlainName schema_is) where
    abbrev P : Presentation
    P = record { generators = named sorts; equations = equations }

    few_sorts : 0 + length sorts ≤ 16000000
    few_sorts = let count = is.count in omega (arith, length-map (enumerate_from 1 sorts) numbered, length-enumerate_from 1 sorts)

    abbrev gs : List ℕ
    gs = flat_map (generator_line S) (named sorts)

    abbrev es : List ℕ
    es = flat_map (equation_line S) equations

    abbrev QG : List GroupSyn → Type 0
    QG = Meet (Spells group) IsGroupOf (generator_line S) (named sorts)

    abbrev QE : List EqSyn → Type 0
    QE = Meet (Spells equation) IsEquationOf (equation_line S) equations

    all_generators : Prints Any (Each (Spells group)) QG (flat_map (generator_line S) (named sorts))
    all_generators = each (Spells group) IsGroupOf (generator_line S) (named sorts)
        (generators_printed sorts 0 few_sorts (Every-from_All (λ (g : Name × Sort). IsSort S g.1) (named sorts) is.generators))

    all_equations : Prints Any (Each (Spells equation)) QE (flat_map (equation_line S) equations)
    all_equations = each (Spells equation) IsEquationOf (equation_line S) equations (equations_printed P is.count equations is.equations contents)

    abbrev IsDecl_of : Decl → Type 0
    IsDecl_of = IsDecl name_is schema_is plain_name plain_schema QG QE gs es all_generators all_equations

    whole : Prints Any (Spells declaration) IsDecl_of
        (line (codes "instance " ++ name_is ++ codes " = literal : " ++ schema_is ++ codes " {") ++ presentation_lines S (record { generators = named sorts; equations = equations }) ++ line (codes "}"))
    whole = same_bytes Any (Spells declaration) IsDecl_of _ _
        (regrouped (codes "instance ") name_is (codes " = ") (codes "literal") (codes " : ") schema_is (codes " {") (codes "\n") (codes "generators\n") gs (codes "equations\n") es (codes "}\n"))
        (declaration_printed name_is schema_is plain_name plain_schema QG QE gs es all_generators all_equations)

    pub is_declaration : (before : List ℕ) → IsDeclaration S (record { generators = named sorts; equations = equations }) name_is schema_is before
        (line (codes "instance " ++ name_is ++ codes " = literal : " ++ schema_is ++ codes " {") ++ presentation_lines S (record { generators = named sorts; equations = equations }) ++ line (codes "}"))
    is_declaration before =
        let p = whole before in
        let lit = p.meets.literal.literal in
        let body = p.meets.body ∙ ap Instance p.meets.literal.is_literal in
        let meets = p.meets.literal.meets in
        record {
          tokens = p.tokens;
          declared = p.value;
          spelled = p.spelled;
          fits = declaration_fits p.value lit body
              (literal_fits lit (groups_fit lit.generators) (equations_fit equations lit.equations meets.1.1.0 shallow) (no_options_fit lit.options meets.1.1.1));
          declares = record {
            literal = lit;
            named = p.meets.named;
            body = body;
            over = meets.0;
            generators = groups_give (named sorts) lit.generators meets.1.0;
            equations = equations_give equations lit.equations meets.1.1.0;
          };
          lexed = λ after others rest. p.lexed after others tt rest;
        }
