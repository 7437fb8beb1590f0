-- Nodes that stand for terms: in a longer list, and where a term takes the place of the variable.
use Rattle.std.proofs.Common.{ℕ, Bool, List, [], ◌∷◌, ◌++◌, Some, ◌≡◌, map, refl, sym, ap, ◌∙◌}
use Rattle.std.specs.Prelude.{slice_get, slice_index, is_some, option_and_then}
use Rattle.std.proofs.lemmas.Option.{option_and_then_some}
use Rattle.cq_tables.specs.Content.{Content, trace_of}
use Rattle.cq_rows.specs.Rows.{row_of_term}
use Rattle.cq_rows.proofs.Tracing.{trace-append}
use Rattle.cq_flat.specs.declared.node.Node.{Node}
use Rattle.cq_flat.specs.declared.node.Node.TheVariants as node
use Rattle.cq_check.specs.Standing.{Stands, generator, constant, cell, function, EachStands, none, more, all_true, traced_step, is_traced}
use Rattle.cq_check.specs.Adding.{Extends}
use Rattle.cq_check.proofs.Typed.{no_type_variable, first_variable, EachTyped, args_typed, typed_cell, typed_generator}
use Rattle.cq_theory.specs.SchemaData.{SchemaData as Schema}
use Rattle.cq_theory.specs.Schema.{one_of}
use Rattle.cq_theory.specs.declared.term.EntTerm.{EntTerm}
use Rattle.cq_theory.specs.declared.term.TypeTerm.{TypeTerm}
use Rattle.cq_theory.specs.EntTerm.{extended}
use Rattle.cq_theory.specs.TypeTerm.{substituted, substituted_step}
use Rattle.cq_theory.specs.Sorts.{target_of, entity_at, entity_of, type_of}
use Rattle.cq_theory.proofs.TypeTerms.{fold-Const, fold-Att, fold-Fun, Each, on_terms}

module _ (m : Content) (rows : List ℕ) (nodes nodes' : List Node) (longer : Extends nodes nodes') where
  mutual
    pub stands_more : {t : TypeTerm} {p : ℕ} → Stands m rows nodes t p → Stands m rows nodes' t p
    stands_more (generator n is at) = generator n is at
    stands_more {t} {p} (constant c is there) = constant c is (longer p (node.Const c) there)
    stands_more {t} {p} (cell a r u is leads there) = cell a r u is leads (longer p (node.Fun a (r ∷ [])) there)
    stands_more {t} {p} (function f ts ps is there each) = function f ts ps is (longer p (node.Fun f ps) there) (each_more each)

    pub each_more : {ts : List TypeTerm} {ps : List ℕ} → EachStands m rows nodes ts ps → EachStands m rows nodes' ts ps
    each_more none = none
    each_more (more first rest) = more (stands_more first) (each_more rest)

pub each_append : (m : Content) (rows : List ℕ) (nodes : List Node) (t : TypeTerm) (p : ℕ) → Stands m rows nodes t p → {ts : List TypeTerm} {ps : List ℕ} → EachStands m rows nodes ts ps
    → EachStands m rows nodes (ts ++ t ∷ []) (ps ++ p ∷ [])
each_append m rows nodes t p last none = more last none
each_append m rows nodes t p last (more first rest) = more first (each_append m rows nodes t p last rest)

-- a term that leads to a row, in the place of a variable of that row
module _ (S : Schema) (m : Content) (entries : List ℕ) (at : EntTerm) (e row : ℕ) (leads : row_of_term m entries at ≡ Some row) where
  path_at : (t : EntTerm) (target : ℕ) → entity_of S (one_of e) t ≡ Some target → row_of_term m entries (extended at t.path) ≡ row_of_term m (row ∷ []) t
  path_at t target h =
      let zeroth : t.generator ≡ 0 = option_and_then_some (target_of S.keys t.path) (entity_at (slice_get (one_of e) t.generator)) target h (λ start first _. first_variable e t.generator start first) in
      trace-append m (slice_index entries at.generator) at.path t.path
      ∙ ap (option_and_then (λ r. trace_of m r t.path)) leads
      ∙ ap (λ n. trace_of m (slice_index (row ∷ []) n) t.path) (sym zeroth)

  abbrev IsTracedAlike : TypeTerm → Type 0
  IsTracedAlike t = (type : ℕ) → type_of S (one_of e) t ≡ Some type → is_traced m entries (substituted at t) ≡ is_traced m (row ∷ []) t

  args_alike : (ts : List TypeTerm) → EachTyped S (one_of e) ts → Each IsTracedAlike ts → map (is_traced m entries) (map (substituted at) ts) ≡ map (is_traced m (row ∷ [])) ts
  args_alike [] typed each = refl
  args_alike (t ∷ ts) typed each =
      let first : is_traced m entries (substituted at t) ≡ is_traced m (row ∷ []) t = each.0 typed.0.0 typed.0.1 in
      let rest : map (is_traced m entries) (map (substituted at) ts) ≡ map (is_traced m (row ∷ [])) ts = args_alike ts typed.1 each.1 in
      λ i. first i ∷ rest i

  pub traced_at : (t : TypeTerm) → IsTracedAlike t
  traced_at = on_terms IsTracedAlike
      (λ n type h. absurd (no_type_variable e n type (typed_generator S (one_of e) n type h)))
      (λ c type h. ap (is_traced m entries) (fold-Const TypeTerm (substituted_step at) c) ∙ fold-Const Bool (traced_step m entries) c ∙ sym (fold-Const Bool (traced_step m (row ∷ [])) c))
      (λ a t type h.
      let typed = typed_cell S (one_of e) a t type h in
      ap (is_traced m entries) (fold-Att TypeTerm (substituted_step at) a t) ∙ fold-Att Bool (traced_step m entries) a (extended at t.path)
      ∙ ap is_some (path_at t typed.edge.from typed.of_entity) ∙ sym (fold-Att Bool (traced_step m (row ∷ [])) a t))
      (λ f ts each type h. ap (is_traced m entries) (fold-Fun TypeTerm (substituted_step at) f ts) ∙ fold-Fun Bool (traced_step m entries) f (map (substituted at) ts)
      ∙ ap all_true (args_alike ts (args_typed S (one_of e) f ts type h) each) ∙ sym (fold-Fun Bool (traced_step m (row ∷ [])) f ts))

  module _ (nodes : List Node) where
    mutual
      pub stands_at : {t : TypeTerm} {p : ℕ} (type : ℕ) → type_of S (one_of e) t ≡ Some type → Stands m (row ∷ []) nodes t p → Stands m entries nodes (substituted at t) p
      stands_at type h (generator n is place) = absurd (no_type_variable e n type (typed_generator S (one_of e) n type (ap (type_of S (one_of e)) (sym is) ∙ h)))
      stands_at type h (constant c is there) = constant c (ap (substituted at) is ∙ fold-Const TypeTerm (substituted_step at) c) there
      stands_at type h (cell a r u is led there) =
          let typed = typed_cell S (one_of e) a u type (ap (type_of S (one_of e)) (sym is) ∙ h) in
          cell a r (extended at u.path) (ap (substituted at) is ∙ fold-Att TypeTerm (substituted_step at) a u) (path_at u typed.edge.from typed.of_entity ∙ led) there
      stands_at type h (function f ts ps is there each) =
          function f (map (substituted at) ts) ps (ap (substituted at) is ∙ fold-Fun TypeTerm (substituted_step at) f ts) there
          (each_at (args_typed S (one_of e) f ts type (ap (type_of S (one_of e)) (sym is) ∙ h)) each)

      each_at : {ts : List TypeTerm} {ps : List ℕ} → EachTyped S (one_of e) ts → EachStands m (row ∷ []) nodes ts ps → EachStands m entries nodes (map (substituted at) ts) ps
      each_at typed none = none
      each_at typed (more first rest) = more (stands_at typed.0.0 typed.0.1 first) (each_at typed.1 rest)
