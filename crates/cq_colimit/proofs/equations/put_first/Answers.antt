use Rattle.std.proofs.Common.{◌≡◌, ◌++◌, ◌∙◌, List, ap, rules}
use Rattle.cq_theory.specs.declared.schema.PathEq.{PathEq}
use Rattle.cq_theory.specs.declared.schema.ObsEq.{ObsEq}
use Rattle.cq_colimit.proofs.Steps.{bare_whole, first_whole}
use Rattle.cq_colimit.proofs.equations.put_first.Goals as goal

pub invariant_of-schema : goal.invariant_of-schema
invariant_of-schema c = (
  bare_whole _ c.schema.invariant.0 _ _ (search rules) (search rules),
  c.schema.invariant.1,
  c.schema.invariant.2,
  c.schema.invariant.3,
)

pub invariant_of-schema-2 : goal.invariant_of-schema-2
invariant_of-schema-2 c =
    let path_eqs : c.replace-own_path_eqs.result ≡ c.schema.inside.path_eqs = search rules in
    let obs_eqs : c.replace-own_obs_eqs.result ≡ c.schema.inside.obs_eqs = search rules in (
      first_whole _ c.args.schema c.schema.view_is c.schema.invariant.0 c.args.equations.path_eqs.items _ c.args.equations.obs_eqs.items _ c.requires.path_eqs c.requires.obs_eqs
          (c.in_ok-path_eqs.ensures.path_eqs ∙ ap (λ (l : List PathEq). c.args.equations.path_eqs.items ++ l) path_eqs)
          (c.in_ok-path_eqs.ensures.obs_eqs ∙ ap (λ (l : List ObsEq). c.args.equations.obs_eqs.items ++ l) obs_eqs),
      c.schema.invariant.1,
      c.schema.invariant.2,
      c.schema.invariant.3,
    )
