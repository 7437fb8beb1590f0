-- What is known of declared names: what their instances are made of, and where routes lead.
use Rattle.std.proofs.Common.{◌≡◌, Bool, true, false, [], ◌∷◌, ◌&&◌, Option, Some, None, refl, sym, ap, ◌∙◌, subst}
use Rattle.std.specs.Prelude.{if◌then◌else◌, option_and_then, All, Ok, Err}
use Rattle.std.specs.Cmp.Lexicographic.{same_text}
use Rattle.std.proofs.lemmas.List.Elements.{All-head, All-tail}
use Rattle.cq_base.specs.declared.name.Name.{Name}
use Rattle.cq_base.specs.declared.place.Place.{Place}
use Rattle.cq_base.specs.Names.{same_name}
use Rattle.cq_syntax.specs.declared.part.Spot.{Spot}
use Rattle.cq_instance.specs.InstanceData.{InstanceData}
use Rattle.cq_environment.specs.declared.moved.Moved.{Moved}
use Rattle.cq_environment.specs.declared.moved.Operation.{Operation}
use Rattle.cq_environment.specs.declared.moved.Operation.TheVariants as operation
use Rattle.cq_environment.specs.Moves.{back, is_left, moved_by, same_operation}
use Rattle.cq_environment.specs.Meanings.{Checked, Ends, Environment, InstanceMeant, MappingMeant, Meant, QueryMeant, TransformMeant}
use Rattle.cq_environment.specs.Meanings.{and_then, colimit, instance, mapping, meant_by, moved_under, query, schema, transform, typeside}
use Rattle.cq_environment.specs.Meanings.{instance_used, mapping_used, query_used, transform_used}
use Rattle.cq_environment.specs.Routes.{IsAround, IsMovedAlong, IsSound, Route, by_coeval, by_delta, by_eval, by_sigma, route_of}
use Rattle.cq_program.specs.Movements.{between_used, ends_used, instance_between, instance_by, instance_named, is_declared, is_named}
use Rattle.cq_program.specs.Movements.{middle_named, operand_in, operand_of, or_wrong_operand, route_used, two_ends}
use Rattle.cq_environment.specs.Environment.{AreEnds, AreSettled, IsBuiltAs, IsKnown, IsMovedAs, IsMovedBy}
use Rattle.cq_program.specs.Posing.{carried, IsMovingAlong, IsMovingAround, IsWhole}
use Rattle.cq_program.proofs.Settled.{instance_meant_by, mapping_meant_by, mapping_settled, meant_settled, query_meant_by, query_settled, transform_settled}

-- what a name stands for, and by what it is moved, are known together
chosen_known : (env : Environment) (b : Bool) (n m : Meant) (o : Option Meant) (v w z : Option Moved) → (if b then Some n else o) ≡ Some m → (if b then v else w) ≡ z
    → IsBuiltAs n × IsMovedAs env n v → (o ≡ Some m → w ≡ z → IsBuiltAs m × IsMovedAs env m z) → IsBuiltAs m × IsMovedAs env m z
chosen_known env true n m o v w z is moved first rest =
    let one : n ≡ m = cc in
    subst (λ (p : Meant × Option Moved). IsBuiltAs p.0 × IsMovedAs env p.0 p.1) (λ k. (one k, moved k)) first
chosen_known env false n m o v w z is moved first rest = rest is moved

known_at : (env entries : Environment) (name : Name) (m : Meant) (z : Option Moved) → All (IsKnown env) entries → meant_by entries name ≡ Some m → moved_under entries name ≡ z
    → IsBuiltAs m × IsMovedAs env m z
known_at env [] name m z all is moved = absurd (cc is)
known_at env (entry ∷ entries) name m z all is moved =
    chosen_known env (same_name name entry.0) entry.1 m (meant_by entries name) entry.2 (moved_under entries name) z is moved (All-head (IsKnown env) entry entries all)
    (known_at env entries name m z (All-tail (IsKnown env) entry entries all))

-- an instance for which a name stands is whole
pub whole : (env : Environment) (name n : Name) (i : InstanceData) → AreSettled env → meant_by env name ≡ Some (instance n i) → IsWhole i
whole env name n i settled is = record {
  model = (meant_settled env env name (instance n i) settled.0 is).1;
  built = (known_at env env name (instance n i) (moved_under env name) settled.1 is refl).0;
}

-- and is what it is declared by
declared_by : (env : Environment) (name n : Name) (a : InstanceData) (v : Moved) → AreSettled env → meant_by env name ≡ Some (instance n a) → moved_under env name ≡ Some v → IsMovedBy env v a
declared_by env name n a v settled is moved = (known_at env env name (instance n a) (Some v) settled.1 is moved).1

one_meant : {n m : Meant} (o : Option Meant) → o ≡ Some n → o ≡ Some m → n ≡ m
one_meant o is is' = let both = sym is ∙ is' in cc

one_route : {r s : Route} (o : Option Route) → o ≡ Some r → o ≡ Some s → r ≡ s
one_route o is is' = let both = sym is ∙ is' in cc

one_instance : (n m : Name) (i j : InstanceData) → instance n i ≡ instance m j → i ≡ j
one_instance n m i j is = cc

pub one_ok : {A : Type 0} (a b : A) → ◌≡◌ {A = Checked A} (Ok a) (Ok b) → a ≡ b
one_ok a b is = cc

-- a check after another gives what it gives
pub after : {A B : Type 0} (check : Checked A) (f : A → Checked B) (b : B) → and_then check f ≡ Ok b → (a : A) × (check ≡ Ok a) × (f a ≡ Ok b)
after (Ok a) f b is = (a, refl, is)
after (Err broken) f b is = absurd (cc is)

abbrev pub back_route : Route → Route
back_route (by_sigma F) = by_delta F
back_route (by_delta F) = by_sigma F
back_route (by_eval Q) = by_coeval Q
back_route (by_coeval Q) = by_eval Q

abbrev operation_of : Route → Operation
operation_of (by_sigma F) = operation.Sigma
operation_of (by_delta F) = operation.Delta
operation_of (by_eval Q) = operation.Eval
operation_of (by_coeval Q) = operation.Coeval

-- a name stands for what an operation moves along, by a sound route, and by another one back
pub record IsRouted (env : Environment) (op : Operation) (name : Name) (route : Route) : Type 0 where
  along : Meant
  along_is : meant_by env name ≡ Some along
  route_is : route_of op along ≡ Some route
  back_is : route_of (back op) along ≡ Some (back_route route)
  of : operation_of route ≡ op
  sound : IsSound route

made_route : (x : Name × Route) (n : Name) (r : Route) → ◌≡◌ {A = Checked (Name × Route)} (Ok (n, r)) (Ok x) → r ≡ x.1
made_route x n r is = ap (λ (p : Name × Route). p.1) (one_ok (n, r) x is)

pub routed : (env : Environment) (op : Operation) (spot : Spot) (x : Name × Route) → AreSettled env → route_used env op spot ≡ Ok x → IsRouted env op spot.name x.1
routed env operation.Sigma spot x settled is =
    let p = after (mapping_used env spot) (λ F. Ok (F.source, by_sigma F.mapping)) x is in
    let F : MappingMeant = p.0 in
    subst (IsRouted env operation.Sigma spot.name) (made_route x F.source (by_sigma F.mapping) p.2)
    (record { along = mapping F.source F.target F.mapping; along_is = mapping_meant_by env spot F p.1; route_is = refl; back_is = refl; of = refl; sound = (mapping_settled env spot F settled p.1).0 })
routed env operation.Delta spot x settled is =
    let p = after (mapping_used env spot) (λ F. Ok (F.target, by_delta F.mapping)) x is in
    let F : MappingMeant = p.0 in
    subst (IsRouted env operation.Delta spot.name) (made_route x F.target (by_delta F.mapping) p.2)
    (record { along = mapping F.source F.target F.mapping; along_is = mapping_meant_by env spot F p.1; route_is = refl; back_is = refl; of = refl; sound = (mapping_settled env spot F settled p.1).0 })
routed env operation.Eval spot x settled is =
    let p = after (query_used env spot) (λ Q. Ok (Q.source, by_eval Q.query)) x is in
    let Q : QueryMeant = p.0 in
    subst (IsRouted env operation.Eval spot.name) (made_route x Q.source (by_eval Q.query) p.2)
    (record { along = query Q.source Q.target Q.query; along_is = query_meant_by env spot Q p.1; route_is = refl; back_is = refl; of = refl; sound = (query_settled env spot Q settled p.1).0 })
routed env operation.Coeval spot x settled is =
    let p = after (query_used env spot) (λ Q. Ok (Q.target, by_coeval Q.query)) x is in
    let Q : QueryMeant = p.0 in
    subst (IsRouted env operation.Coeval spot.name) (made_route x Q.target (by_coeval Q.query) p.2)
    (record { along = query Q.source Q.target Q.query; along_is = query_meant_by env spot Q p.1; route_is = refl; back_is = refl; of = refl; sound = (query_settled env spot Q settled p.1).0 })

one_operation : (p q : Operation) → same_operation p q ≡ true → p ≡ q
one_operation operation.Sigma operation.Sigma is = refl
one_operation operation.Delta operation.Delta is = refl
one_operation operation.Eval operation.Eval is = refl
one_operation operation.Coeval operation.Coeval is = refl
one_operation operation.Sigma operation.Delta is = absurd (cc is)
one_operation operation.Sigma operation.Eval is = absurd (cc is)
one_operation operation.Sigma operation.Coeval is = absurd (cc is)
one_operation operation.Delta operation.Sigma is = absurd (cc is)
one_operation operation.Delta operation.Eval is = absurd (cc is)
one_operation operation.Delta operation.Coeval is = absurd (cc is)
one_operation operation.Eval operation.Sigma is = absurd (cc is)
one_operation operation.Eval operation.Delta is = absurd (cc is)
one_operation operation.Eval operation.Coeval is = absurd (cc is)
one_operation operation.Coeval operation.Sigma is = absurd (cc is)
one_operation operation.Coeval operation.Delta is = absurd (cc is)
one_operation operation.Coeval operation.Eval is = absurd (cc is)

-- an instance whose operand is found is declared so
both_same : (op : Operation) (along m : Name) (v : Moved) (a b : Bool) → same_operation op v.operation ≡ a → same_name along v.along ≡ b → (if a && b then Some v.operand else None) ≡ Some m
    → Some v ≡ Some (moved_by op along m)
both_same op along m v true true ops names is =
    let operations : op ≡ v.operation = one_operation op v.operation ops in
    let alongs : along ≡ v.along = same_text along v.along (sym names) in
    let operands : v.operand ≡ m = cc in
    λ k. Some (record { operation = sym operations k; along = sym alongs k; operand = operands k })
both_same op along m v true false ops names is = absurd (cc is)
both_same op along m v false b ops names is = absurd (cc is)

operand_there : (op : Operation) (along m : Name) (o : Option Moved) → operand_in op along o ≡ Some m → o ≡ Some (moved_by op along m)
operand_there op along m None is = absurd (cc is)
operand_there op along m (Some v) is = both_same op along m v (same_operation op v.operation) (same_name along v.along) refl refl is

named_there : (n : Name) (o : Option Name) → is_named n o ≡ true → o ≡ Some n
named_there n None is = absurd (cc is)
named_there n (Some m) is = ap (λ (x : Name). Some x) (sym (same_text n m (sym is)))

declared_so : (env : Environment) (op : Operation) (along operand name : Name) → is_declared env op along operand name ≡ true → moved_under env name ≡ Some (moved_by op along operand)
declared_so env op along operand name is =
    operand_there op along operand (moved_under env name) (named_there operand (operand_of env op along name) is)

-- an instance that is declared so is what the route makes of the operand
along_route : (env : Environment) (op : Operation) (along : Name) (r : Route) (m : Meant) → meant_by env along ≡ Some m → route_of op m ≡ Some r
    → (name n operand s : Name) (a i : InstanceData) → AreSettled env → moved_under env name ≡ Some (moved_by op along operand)
    → meant_by env name ≡ Some (instance n a) → meant_by env operand ≡ Some (instance s i) → IsMovedAlong r i a
along_route env op along r m along_is route_is name n operand s a i settled moved is operand_is =
    let by : IsMovedBy env (moved_by op along operand) a = declared_by env name n a (moved_by op along operand) settled is moved in
    let meanings : by.along ≡ m = one_meant (meant_by env along) by.along_is along_is in
    let routes : by.route ≡ r = one_route (route_of op m) (sym (ap (route_of op) meanings) ∙ by.route_is) route_is in
    let operands : by.operand ≡ i = one_instance by.schema s by.operand i (one_meant (meant_by env operand) by.operand_is operand_is) in
    subst (λ (p : Route × InstanceData). IsMovedAlong p.0 p.1 a) (λ k. (routes k, operands k)) by.moved

-- the ends that are used
pub ends_are : (env : Environment) (source target : Spot) (e : Ends) → ends_used env source target ≡ Ok e
    → AreEnds env e × (meant_by env source.name ≡ Some (instance e.start.schema e.start.instance)) × (meant_by env target.name ≡ Some (instance e.finish.schema e.finish.instance))
ends_are env source target e is =
    let p = after (instance_used env source) (λ i. and_then (instance_used env target) (λ j. Ok (two_ends source target i j))) e is in
    let q = after (instance_used env target) (λ j. Ok (two_ends source target p.0 j)) e p.2 in
    let made : two_ends source target p.0 q.0 ≡ e = one_ok (two_ends source target p.0 q.0) e q.2 in
    let from = instance_meant_by env source p.0 p.1 in
    let to = instance_meant_by env target q.0 q.1 in (
      subst (AreEnds env) made (from, to),
      subst (λ (f : Ends). meant_by env source.name ≡ Some (instance f.start.schema f.start.instance)) made from,
      subst (λ (f : Ends). meant_by env target.name ≡ Some (instance f.finish.schema f.finish.instance)) made to,
    )

module _ (env : Environment) (op : Operation) (by moved source target : Spot) (x : Name × Route) (e : Ends) (settled : AreSettled env)
    (route_is : route_used env op by ≡ Ok x) (ends : ends_used env source target ≡ Ok e) where
  -- a transform along an operation is a movement
  pub is_moving_along : (h : TransformMeant) → transform_used env moved ≡ Ok h → is_declared env op by.name h.ends.source source.name ≡ true
      → is_declared env op by.name h.ends.target target.name ≡ true → IsMovingAlong x.1 (carried h e)
  is_moving_along h used start finish =
      let r : IsRouted env op by.name x.1 = routed env op by x settled route_is in
      let are = ends_are env source target e ends in
      let is = transform_settled env moved h settled used in
      record {
        sound = r.sound;
        goes = is.1;
        source = whole env h.ends.source h.ends.start.schema h.ends.start.instance settled is.0.0;
        target = whole env h.ends.target h.ends.finish.schema h.ends.finish.instance settled is.0.1;
        start = whole env source.name e.start.schema e.start.instance settled are.1;
        finish = whole env target.name e.finish.schema e.finish.instance settled are.2;
        start_moved = along_route env op by.name x.1 r.along r.along_is r.route_is source.name e.start.schema h.ends.source h.ends.start.schema e.start.instance h.ends.start.instance
            settled (declared_so env op by.name h.ends.source source.name start) are.1 is.0.0;
        finish_moved = along_route env op by.name x.1 r.along r.along_is r.route_is target.name e.finish.schema h.ends.target h.ends.finish.schema e.finish.instance h.ends.finish.instance
            settled (declared_so env op by.name h.ends.target target.name finish) are.2 is.0.1;
      }

-- the instance between an operand and one that is declared as there and back
record IsBetween (env : Environment) (op : Operation) (along operand name : Name) (x : InstanceData) : Type 0 where
  middle : Name
  schema : Name
  middle_is : meant_by env middle ≡ Some (instance schema x)
  there : moved_under env middle ≡ Some (moved_by op along operand)
  back_from : moved_under env name ≡ Some (moved_by (back op) along middle)

wrong_or : (place : Place) (o : Option InstanceData) (x : InstanceData) → or_wrong_operand place o ≡ Ok x → o ≡ Some x
wrong_or place None x is = absurd (cc is)
wrong_or place (Some y) x is = ap (λ (z : InstanceData). Some z) (one_ok y x is)

instance_by_there : (m : Meant) (x : InstanceData) → instance_by m ≡ Some x → (n : Name) × (m ≡ instance n x)
instance_by_there (typeside T) x is = absurd (cc is)
instance_by_there (schema S) x is = absurd (cc is)
instance_by_there (colimit c) x is = absurd (cc is)
instance_by_there (mapping n t F) x is = absurd (cc is)
instance_by_there (query n t Q) x is = absurd (cc is)
instance_by_there (instance n i) x is = let same : i ≡ x = cc in (n, ap (instance n) same)
instance_by_there (transform e t) x is = absurd (cc is)

by_instance : (o : Option Meant) (x : InstanceData) → option_and_then instance_by o ≡ Some x → (n : Name) × (o ≡ Some (instance n x))
by_instance None x is = absurd (cc is)
by_instance (Some m) x is = let p = instance_by_there m x is in (p.0, ap (λ (y : Meant). Some y) p.1)

middle_there : (b : Bool) (o : Option InstanceData) (x : InstanceData) → (if b then o else None) ≡ Some x → (b ≡ true) × (o ≡ Some x)
middle_there true o x is = (refl, is)
middle_there false o x is = absurd (cc is)

operand_found : (env : Environment) (op : Operation) (along operand name : Name) (o : Option Name) (x : InstanceData) → operand_of env (back op) along name ≡ o
    → option_and_then (middle_named env op along operand) o ≡ Some x → IsBetween env op along operand name x
operand_found env op along operand name None x found is = absurd (cc is)
operand_found env op along operand name (Some middle) x found is =
    let both = middle_there (is_declared env op along operand middle) (instance_named env middle) x is in
    let named = by_instance (meant_by env middle) x both.1 in
    record {
      middle = middle;
      schema = named.0;
      middle_is = named.1;
      there = declared_so env op along operand middle both.0;
      back_from = operand_there (back op) along middle (moved_under env name) found;
    }

between : (env : Environment) (op : Operation) (by operand spot : Spot) (x : InstanceData) → between_used env op by operand spot ≡ Ok x → IsBetween env op by.name operand.name spot.name x
between env op by operand spot x is =
    operand_found env op by.name operand.name spot.name (operand_of env (back op) by.name spot.name) x refl
    (wrong_or spot.place (instance_between env op by.name operand.name spot.name) x is)

left_around : (r : Route) (s f x : InstanceData) → is_left (operation_of r) ≡ true → IsMovedAlong r s x → IsMovedAlong (back_route r) x f → IsAround r s f x
left_around (by_sigma F) s f x left there back = (there, back)
left_around (by_delta F) s f x left there back = absurd (cc left)
left_around (by_eval Q) s f x left there back = absurd (cc left)
left_around (by_coeval Q) s f x left there back = (there, back)

right_around : (r : Route) (s f x : InstanceData) → is_left (operation_of r) ≡ false → IsMovedAlong r f x → IsMovedAlong (back_route r) x s → IsAround r s f x
right_around (by_sigma F) s f x right there back = absurd (cc right)
right_around (by_delta F) s f x right there back = (there, back)
right_around (by_eval Q) s f x right there back = (there, back)
right_around (by_coeval Q) s f x right there back = absurd (cc right)

module _ (env : Environment) (op : Operation) (by moved source target : Spot) (x : Name × Route) (e : Ends) (i : InstanceMeant) (there : InstanceData) (settled : AreSettled env)
    (route_is : route_used env op by ≡ Ok x) (ends : ends_used env source target ≡ Ok e) (used : instance_used env moved ≡ Ok i) where
  -- what an operation makes of the operand is there, and what the one that goes back makes of that is the end
  around_there : (n : Name) (a : InstanceData) → meant_by env moved.name ≡ Some (instance n a) → (spot : Spot) → between_used env op by moved spot ≡ Ok there → IsMovedAlong x.1 a there
  around_there n a is spot found =
      let r : IsRouted env op by.name x.1 = routed env op by x settled route_is in
      let b : IsBetween env op by.name moved.name spot.name there = between env op by moved spot there found in
      along_route env op by.name x.1 r.along r.along_is r.route_is b.middle b.schema moved.name n there a settled b.there b.middle_is is

  around_back : (n : Name) (a : InstanceData) (spot : Spot) → meant_by env spot.name ≡ Some (instance n a) → between_used env op by moved spot ≡ Ok there → IsMovedAlong (back_route x.1) there a
  around_back n a spot is found =
      let r : IsRouted env op by.name x.1 = routed env op by x settled route_is in
      let b : IsBetween env op by.name moved.name spot.name there = between env op by moved spot there found in
      along_route env (back op) by.name (back_route x.1) r.along r.along_is r.back_is spot.name n b.middle b.schema a there settled b.back_from is b.middle_is

  between_whole : (spot : Spot) → between_used env op by moved spot ≡ Ok there → IsWhole there
  between_whole spot found =
      let b : IsBetween env op by.name moved.name spot.name there = between env op by moved spot there found in
      whole env b.middle b.schema there settled b.middle_is

  pub is_unit : is_left op ≡ true → same_name moved.name source.name ≡ true → between_used env op by moved target ≡ Ok there → IsMovingAround x.1 e.start.instance e.finish.instance there
  is_unit left same found =
      let r : IsRouted env op by.name x.1 = routed env op by x settled route_is in
      let are = ends_are env source target e ends in
      let start : meant_by env moved.name ≡ Some (instance e.start.schema e.start.instance) =
      ap (meant_by env) (same_text moved.name source.name (sym same)) ∙ are.1 in
      record {
        sound = r.sound;
        whole = between_whole target found;
        start_whole = whole env source.name e.start.schema e.start.instance settled are.1;
        finish_whole = whole env target.name e.finish.schema e.finish.instance settled are.2;
        around = left_around x.1 e.start.instance e.finish.instance there (ap is_left r.of ∙ left) (around_there e.start.schema e.start.instance start target found)
            (around_back e.finish.schema e.finish.instance target are.2 found);
      }

  pub is_counit : is_left op ≡ false → same_name moved.name target.name ≡ true → between_used env op by moved source ≡ Ok there → IsMovingAround x.1 e.start.instance e.finish.instance there
  is_counit right same found =
      let r : IsRouted env op by.name x.1 = routed env op by x settled route_is in
      let are = ends_are env source target e ends in
      let finish : meant_by env moved.name ≡ Some (instance e.finish.schema e.finish.instance) =
      ap (meant_by env) (same_text moved.name target.name (sym same)) ∙ are.2 in
      record {
        sound = r.sound;
        whole = between_whole source found;
        start_whole = whole env source.name e.start.schema e.start.instance settled are.1;
        finish_whole = whole env target.name e.finish.schema e.finish.instance settled are.2;
        around = right_around x.1 e.start.instance e.finish.instance there (ap is_left r.of ∙ right) (around_there e.finish.schema e.finish.instance finish source found)
            (around_back e.start.schema e.start.instance source are.1 found);
      }
