-- The instances among settled names are the models which their presentations present.
use Rattle.std.proofs.Common.{List, Some, ◌≡◌, sym, subst}
use Rattle.std.specs.List.{filter_map}
use Rattle.cq_base.specs.declared.name.Name.{Name}
use Rattle.cq_theory.proofs.Every.{Every-at, Every-filter_map}
use Rattle.cq_theory.proofs.OnValues.{All_at}
use Rattle.cq_instance.proofs.Lists.{All_from}
use Rattle.cq_environment.specs.Environment.{AreSettled, IsSettled}
use Rattle.cq_environment.specs.Meanings.{Binding, Environment, Meant, typeside, schema, colimit, mapping, query, instance, transform}
use Rattle.cq_program.specs.Initial.{AreInitial, IsInitial}
use Rattle.cq_program.specs.Program.{Listing, listing_named, listing_of}

listed_initial : (env : Environment) (name : Name) (m : Meant) → IsSettled env m → (found : Listing) → listing_named name m ≡ Some found → IsInitial found
listed_initial env name (typeside T) settled found is = absurd (cc is)
listed_initial env name (schema S) settled found is = absurd (cc is)
listed_initial env name (colimit c) settled found is = absurd (cc is)
listed_initial env name (mapping n t F) settled found is = absurd (cc is)
listed_initial env name (query n t Q) settled found is = absurd (cc is)
listed_initial env name (transform e t) settled found is = absurd (cc is)
listed_initial env name (instance n i) settled found is =
    let same : record { name = name; schema = n; instance = i } ≡ found = cc in
    subst IsInitial same settled.1.0

pub are_initial : (env : Environment) (L : List Listing) → AreSettled env → L ≡ filter_map listing_of env → AreInitial L
are_initial env L settled is =
    let each = Every-filter_map IsInitial listing_of env (λ n entry found at listed.
    listed_initial env entry.0 entry.1 (All_at (λ (e : Binding). IsSettled env e.1) env n entry settled.0 at) found listed) in
    subst AreInitial (sym is) (All_from IsInitial (filter_map listing_of env) (λ n found at. Every-at IsInitial (filter_map listing_of env) n found each at))
