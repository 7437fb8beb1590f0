-- The table of the declared names as an environment.
use Rattle.std.proofs.Common.{Bool, true, false, List, [], ◌∷◌, ◌++◌, ◌≡◌, Option, Some, None, Result, Ok, Err, IfOk, IfSome, Bor, refl, ap, sym, ◌∙◌}
use Rattle.std.specs.Prelude.{Box, cond, if◌then◌else◌, is_some, option_and_then, option_map}
use Rattle.std.specs.Map.{lookup}
use Rattle.std.specs.declared.alloc.Global.{Global}
use Rattle.indexmap.specs.IndexMap.{insert_entry}
use Rattle.cq_base.specs.declared.name.Name.{Name}
use Rattle.cq_base.specs.Names.{same_name}
use Rattle.cq_environment.specs.declared.environment.Bound.{Bound}
use Rattle.cq_environment.specs.declared.moved.Moved.{Moved}
use Rattle.cq_environment.specs.Meanings.{Environment, Meant, meant_by, moved_under}
use Rattle.cq_environment.specs.Environment.{Entry, environment_of, meant}

abbrev pub meant_in : Option (Box Bound Global) → Option Meant
meant_in found = option_map (λ bound. meant bound.value.meaning) found

one_more : (b : Bool) (entry : Entry) (found : Option (Box Bound Global)) (rest : Option Meant) → meant_in found ≡ rest
    → meant_in (cond b (Some entry.1) found) ≡ (if b then Some (meant entry.1.value.meaning) else rest)
one_more true entry found rest h = refl
one_more false entry found rest h = h

-- a name stands for what the table has under it
pub meant_by-lookup : (entries : List Entry) (name : Name) → meant_in (lookup (same_name name) entries) ≡ meant_by (environment_of entries) name
meant_by-lookup [] name = refl
meant_by-lookup (entry ∷ entries) name =
    one_more (same_name name entry.0) entry (lookup (same_name name) entries) (meant_by (environment_of entries) name) (meant_by-lookup entries name)

-- and is moved by what the table has under it
abbrev pub moved_in : Option (Box Bound Global) → Option Moved
moved_in found = option_and_then (λ bound. bound.value.moved) found

one_moved : (b : Bool) (entry : Entry) (found : Option (Box Bound Global)) (rest : Option Moved) → moved_in found ≡ rest
    → moved_in (cond b (Some entry.1) found) ≡ (if b then entry.1.value.moved else rest)
one_moved true entry found rest h = refl
one_moved false entry found rest h = h

pub moved_under-lookup : (entries : List Entry) (name : Name) → moved_in (lookup (same_name name) entries) ≡ moved_under (environment_of entries) name
moved_under-lookup [] name = refl
moved_under-lookup (entry ∷ entries) name =
    one_moved (same_name name entry.0) entry (lookup (same_name name) entries) (moved_under (environment_of entries) name) (moved_under-lookup entries name)

-- a name that the table doesn't have comes last
pub inserted : (entries : List Entry) (name : Name) (m : Box Bound Global) → is_some (lookup (same_name name) entries) ≡ false
    → environment_of (insert_entry same_name entries name m) ≡ environment_of entries ++ (name, meant m.value.meaning, m.value.moved) ∷ []
inserted [] name m none = refl
inserted (entry ∷ entries) name m none = step (same_name name entry.0) none (inserted entries name m)
  where
    step : (b : Bool) → is_some (cond b (Some entry.1) (lookup (same_name name) entries)) ≡ false
        → (is_some (lookup (same_name name) entries) ≡ false → environment_of (insert_entry same_name entries name m) ≡ environment_of entries ++ (name, meant m.value.meaning, m.value.moved) ∷ [])
        → environment_of (if b then (entry.0, m) ∷ entries else entry ∷ insert_entry same_name entries name m) ≡ environment_of (entry ∷ entries) ++ (name, meant m.value.meaning, m.value.moved) ∷ []
    step true none rest = cc
    step false none rest = ap (λ (env : Environment). (entry.0, meant entry.1.value.meaning, entry.1.value.moved) ∷ env) (rest none)

-- Put once more under its name, what a name stands for changes nothing.
pub replaced : (entries : List Entry) (name : Name) (m : Box Bound Global) → meant_by (environment_of entries) name ≡ Some (meant m.value.meaning)
    → moved_under (environment_of entries) name ≡ m.value.moved → environment_of (insert_entry same_name entries name m) ≡ environment_of entries
replaced [] name m there moved = cc
replaced (entry ∷ entries) name m there moved = step (same_name name entry.0) there moved (replaced entries name m)
  where
    step : (b : Bool) → (if b then Some (meant entry.1.value.meaning) else meant_by (environment_of entries) name) ≡ Some (meant m.value.meaning)
        → (if b then entry.1.value.moved else moved_under (environment_of entries) name) ≡ m.value.moved
        → (meant_by (environment_of entries) name ≡ Some (meant m.value.meaning) → moved_under (environment_of entries) name ≡ m.value.moved → environment_of (insert_entry same_name entries name m) ≡ environment_of entries)
        → environment_of (if b then (entry.0, m) ∷ entries else entry ∷ insert_entry same_name entries name m) ≡ environment_of (entry ∷ entries)
    step true there moved rest =
        let same : meant m.value.meaning ≡ meant entry.1.value.meaning = cc in
        let mover : m.value.moved ≡ entry.1.value.moved = sym moved in
        λ i. (entry.0, same i, mover i) ∷ environment_of entries
    step false there moved rest = ap (λ (env : Environment). (entry.0, meant entry.1.value.meaning, entry.1.value.moved) ∷ env) (rest there moved)

-- what is made in place of what a name stands for, where no operation moved it
pub bound_under : {E : Type 0} (r : Result (Option Bound) E) (env : Environment) (name : Name) (m : Meant) (o : Option (Bor Moved)) → Some m ≡ meant_by env name
    → option_map (λ (v : Bor Moved). v.now) o ≡ moved_under env name → is_some o ≡ false
    → IfOk r (λ found. IfSome found (λ bound. (meant bound.meaning ≡ m) × (bound.moved ≡ None)))
    → IfOk r (λ found. IfSome found (λ bound. (meant_by env name ≡ Some (meant bound.meaning)) × (moved_under env name ≡ bound.moved)))
bound_under (Err e) env name m o there moved none told = tt
bound_under (Ok None) env name m o there moved none told = tt
bound_under (Ok (Some bound)) env name m (Some v) there moved none told = cc
bound_under (Ok (Some bound)) env name m None there moved none told = (sym there ∙ ap (λ (n : Meant). Some n) (sym told.0), sym moved ∙ sym told.1)
