use Rattle.std.proofs.Common.{refl, sym, subst, inl, inr}
use Rattle.cq_theory.specs.declared.presentation.Equation.{Equation}
use Rattle.cq_theory.specs.declared.presentation.Presentation.{Presentation}
use Rattle.cq_theory.specs.Presentation.{IsPresentation}
use Rattle.cq_unmet.specs.Underivable.{TellsUnderivable, modelled, none}
use Rattle.cq_unmet.proofs.underivable.append_underivable.Goals as goal

pub build-requires : goal.build-requires
build-requires c = record {
  presentation = subst (λ (p : Presentation × Equation). IsPresentation c.args.schema.value p.0) (sym c.into_parts-over.ensures) c.requires.presentation;
  depth = c.requires.depth;
}

pub returns-in-Ok : goal.returns-in-Ok
returns-in-Ok c =
    subst (λ (p : Presentation × Equation). TellsUnderivable c.args.schema.value p.0 p.1 c.args.depth c.args.out.now.items c.append_sides.new.out.items) c.into_parts-over.ensures
    (modelled c.in-Ok.instance c.in-Ok.ensures.schema c.in-Ok.ensures.presentation c.in-Ok.ensures.listed c.in_ok-append_sides-in-Ok.ensures)

pub returns-in-Err-Depth : goal.returns-in-Err-Depth
returns-in-Err-Depth c =
    subst (λ (p : Presentation × Equation). TellsUnderivable c.args.schema.value p.0 p.1 c.args.depth c.args.out.now.items c.args.out.now.items) c.into_parts-over.ensures
    (none (inl (c.in-Err-Depth.ensures.open (cc))) refl)

pub returns-in-Err-TooManyRows : goal.returns-in-Err-TooManyRows
returns-in-Err-TooManyRows c =
    subst (λ (p : Presentation × Equation). TellsUnderivable c.args.schema.value p.0 p.1 c.args.depth c.args.out.now.items c.args.out.now.items) c.into_parts-over.ensures
    (none (inr (inl (c.in-Err-TooManyRows.ensures.many (cc)))) refl)

pub returns-in-Err-Inconsistent : goal.returns-in-Err-Inconsistent
returns-in-Err-Inconsistent c =
    subst (λ (p : Presentation × Equation). TellsUnderivable c.args.schema.value p.0 p.1 c.args.depth c.args.out.now.items c.args.out.now.items) c.into_parts-over.ensures
    (none (inr (inr (c.in-Err-Inconsistent.field-0-0, c.in-Err-Inconsistent.field-0-1, c.in-Err-Inconsistent.ensures.inconsistent c.in-Err-Inconsistent.field-0-0 c.in-Err-Inconsistent.field-0-1 (cc)))) refl)
