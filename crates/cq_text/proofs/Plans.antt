-- What is read in the plan of a literal.
use Rattle.std.proofs.Common.{ℕ, List, [], ◌++◌, ◌+◌, ◌≡◌, ◌<◌, length, take, get_or, sym, ap, ◌∙◌, append_assoc, arith}
use Rattle.std.specs.Prelude.{sum}
use Rattle.std.proofs.lemmas.List.FromFn.{get_or-map-range_with_len, length-map-range_with_len}
use Rattle.cq_instance.specs.InstanceData.{InstanceData}
use Rattle.cq_text.specs.declared.plan.Plan.{Plan}
use Rattle.cq_text.specs.Spelling.{IsPlan, starts_of}

pub length-starts_of : (counts : List ℕ) → length (starts_of counts) ≡ length counts
length-starts_of counts = length-map-range_with_len (λ entity. sum (take entity counts)) 0 (length counts)

pub plan_counts : (i : InstanceData) (plan : Plan) → IsPlan i plan → length i.tables.sheet.counts ≡ length i.schema.entities
plan_counts i plan is = sym (length-starts_of i.tables.sheet.counts) ∙ ap length (sym is.starts) ∙ is.entities

-- the generator of an entity's first row
pub start_at : (i : InstanceData) (plan : Plan) → IsPlan i plan → (entity d : ℕ) → entity < length i.schema.entities → get_or plan.starts.items entity d ≡ sum (take entity i.tables.sheet.counts)
start_at i plan is entity d within =
    let counts = i.tables.sheet.counts in
    let all : length counts ≡ length i.schema.entities = plan_counts i plan is in
    ap (λ l. get_or l entity d) is.starts ∙ get_or-map-range_with_len (λ e. sum (take e counts)) 0 (length counts) entity entity d (omega arith) (omega arith)

-- what is appended part by part is appended as a whole
pub two_parts : (t t1 t2 a b : List ℕ) → t1 ≡ t ++ a → t2 ≡ t1 ++ b → t2 ≡ t ++ (a ++ b)
two_parts t t1 t2 a b first second = second ∙ ap (λ l. l ++ b) first ∙ append_assoc t a b

pub four_parts : (t t1 t2 t3 t4 a b c d : List ℕ) → t1 ≡ t ++ a → t2 ≡ t1 ++ b → t3 ≡ t2 ++ c → t4 ≡ t3 ++ d → t4 ≡ t ++ (((a ++ b) ++ c) ++ d)
four_parts t t1 t2 t3 t4 a b c d first second third fourth = two_parts t t3 t4 ((a ++ b) ++ c) d (two_parts t t2 t3 (a ++ b) c (two_parts t t1 t2 a b first second) third) fourth

pub three_parts : (t t1 t2 t3 a b c : List ℕ) → t ≡ [] → t1 ≡ t ++ a → t2 ≡ t1 ++ b → t3 ≡ t2 ++ c → t3 ≡ (a ++ b) ++ c
three_parts t t1 t2 t3 a b c none first second third = third ∙ ap (λ l. l ++ c) (second ∙ ap (λ l. l ++ b) (first ∙ ap (λ l. l ++ a) none))
