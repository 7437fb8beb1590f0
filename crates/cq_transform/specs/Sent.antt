-- Where values go.
use Rattle.std.specs.Prelude.{ℕ, List, find, slice_index_or}
use Rattle.cq_theory.specs.declared.constant.Con.TheVariants.{Named}
use Rattle.cq_theory.specs.declared.value.Value.{Value}
use Rattle.cq_theory.specs.declared.value.Value.TheVariants as value
use Rattle.cq_theory.specs.declared.value.Value.TheOpen.{Value-F, Const, Null, Fun}
use Rattle.cq_theory.specs.declared.value.Value.TheFolds.{fold-Value}
use Rattle.cq_theory.specs.declared.value.Entry.{Entry}
use Rattle.cq_theory.specs.Tables.{is_for, entry_or_built}

-- where a value goes, if nulls go to these values, in tables with these entries
module _ (entries : List Entry) (nulls : List Value) where
  abbrev pub value_sent_step : Value-F Value → Value
  value_sent_step (Const c) = value.Const c
  value_sent_step (Null n) = slice_index_or nulls n (value.Const (Named 0))
  value_sent_step (Fun f args) = entry_or_built (find (is_for f args) entries) f args

  abbrev pub value_sent : Value → Value
  value_sent = fold-Value Value value_sent_step
