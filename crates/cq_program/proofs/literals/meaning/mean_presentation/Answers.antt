use Rattle.std.proofs.Common.{◌≡◌, true, refl, sym, ap, subst, ◌∙◌, inl, inr}
use Rattle.cq_theory.specs.Closing.{IsInconsistentAt}
use Rattle.cq_theory.specs.Schema.{IsSchema}
use Rattle.cq_theory.specs.SchemaData.{SchemaData}
use Rattle.cq_theory.specs.TypesideData.{TypesideData}
use Rattle.cq_theory.specs.ValueText.{value_text, is_named_con}
use Rattle.cq_theory.specs.declared.value.Value.TheVariants.{Const}
use Rattle.cq_program.specs.Judging.{TellsConstants}
use Rattle.cq_program.proofs.Answered.{is_term_model}
use Rattle.cq_program.proofs.Constants.{constants_within, unmade_clash}
use Rattle.cq_program.proofs.literals.meaning.mean_presentation.Goals as goal

pub returns-in-Err-Depth-clause-refused : goal.returns-in-Err-Depth-clause-refused
returns-in-Err-Depth-clause-refused c = (refl, inr (inl (refl, c.in-Err-Depth.ensures.open (cc))))

pub returns-in-Err-TooManyRows-clause-refused : goal.returns-in-Err-TooManyRows-clause-refused
returns-in-Err-TooManyRows-clause-refused c =
    let wide = c.in-Err-TooManyRows.ensures.many (cc) in
    (refl, inr (inr (refl, wide.0, wide.1, wide.2)))

pub tell_clash-requires-clause-least : goal.tell_clash-requires-clause-least
tell_clash-requires-clause-least c =
    let clash : IsInconsistentAt c.args.schema.value c.args.presentation c.in-Err-Inconsistent.least c.in-Err-Inconsistent.greater =
    c.in-Err-Inconsistent.ensures.inconsistent c.in-Err-Inconsistent.least c.in-Err-Inconsistent.greater (cc) in
    let schema : IsSchema c.args.schema.value = subst IsSchema c.deref.ensures c.is_well_sorted.ensures in
    let typeside : c.deref-in-Err-Inconsistent-2.result.now ≡ c.args.schema.value.typeside =
    c.deref-in-Err-Inconsistent-2.ensures ∙ ap (λ (S : SchemaData). S.typeside) (c.behind-over.view_is ∙ c.deref-in-Err-Inconsistent.ensures ∙ c.in_ok-over.ensures.cases) in
    subst (λ (T : TypesideData). is_named_con T c.in-Err-Inconsistent.least ≡ true) (sym typeside)
    (constants_within c.args.schema.value c.args.presentation schema c.requires.presentation c.in-Err-Inconsistent.least c.in-Err-Inconsistent.greater clash).0

pub tell_clash-requires-clause-greater : goal.tell_clash-requires-clause-greater
tell_clash-requires-clause-greater c =
    let clash : IsInconsistentAt c.args.schema.value c.args.presentation c.in-Err-Inconsistent.least c.in-Err-Inconsistent.greater =
    c.in-Err-Inconsistent.ensures.inconsistent c.in-Err-Inconsistent.least c.in-Err-Inconsistent.greater (cc) in
    let schema : IsSchema c.args.schema.value = subst IsSchema c.deref.ensures c.is_well_sorted.ensures in
    let typeside : c.deref-in-Err-Inconsistent-2.result.now ≡ c.args.schema.value.typeside =
    c.deref-in-Err-Inconsistent-2.ensures ∙ ap (λ (S : SchemaData). S.typeside) (c.behind-over.view_is ∙ c.deref-in-Err-Inconsistent.ensures ∙ c.in_ok-over.ensures.cases) in
    subst (λ (T : TypesideData). is_named_con T c.in-Err-Inconsistent.greater ≡ true) (sym typeside)
    (constants_within c.args.schema.value c.args.presentation schema c.requires.presentation c.in-Err-Inconsistent.least c.in-Err-Inconsistent.greater clash).1

pub returns-in-Err-Inconsistent-clause-refused : goal.returns-in-Err-Inconsistent-clause-refused
returns-in-Err-Inconsistent-clause-refused c =
    let clash : IsInconsistentAt c.args.schema.value c.args.presentation c.in-Err-Inconsistent.least c.in-Err-Inconsistent.greater =
    c.in-Err-Inconsistent.ensures.inconsistent c.in-Err-Inconsistent.least c.in-Err-Inconsistent.greater (cc) in
    let typeside : c.deref-in-Err-Inconsistent-2.result.now ≡ c.args.schema.value.typeside =
    c.deref-in-Err-Inconsistent-2.ensures ∙ ap (λ (S : SchemaData). S.typeside) (c.behind-over.view_is ∙ c.deref-in-Err-Inconsistent.ensures ∙ c.in_ok-over.ensures.cases) in
    unmade_clash c.args.depth c.args.place c.args.name c.args.schema.value c.args.presentation c.in-Err-Inconsistent.least c.in-Err-Inconsistent.greater c.tell_clash.result clash
    (subst (λ (T : TypesideData). TellsConstants c.args.place (value_text T (Const c.in-Err-Inconsistent.least)) (value_text T (Const c.in-Err-Inconsistent.greater)) c.tell_clash.result) typeside c.tell_clash.ensures)

pub share_instance-requires : goal.share_instance-requires
share_instance-requires c = is_term_model c.in-Ok.model c.in-Ok.ensures.listed
