-- Terms that become nodes, step by step.
use Rattle.std.proofs.Common.{ℕ, zero, suc, List, [], ◌∷◌, ◌++◌, Option, Some, ◌≡◌, ◌<◌, ◌≤◌, ◌+◌, ◌⊎◌, inl, inr, map, length, get_or, take, refl, sym, ap, subst, ◌∙◌, arith, length-append, append_assoc}
use Rattle.std.specs.Prelude.{slice_get, slice_index, All}
use Rattle.std.specs.List.{flat_map}
use Rattle.std.proofs.lemmas.List.{append-nil, take_more}
use Rattle.std.proofs.lemmas.List.Concat.{flat_map-append}
use Rattle.std.proofs.lemmas.List.Folds.{flat_map-map}
use Rattle.std.proofs.lemmas.Option.{slice_get_within, same_Some}
use Rattle.cq_tables.specs.Content.{Content}
use Rattle.cq_rows.specs.Rows.{row_of_term}
use Rattle.cq_flat.specs.declared.node.Node.{Node}
use Rattle.cq_flat.specs.declared.node.Node.TheVariants as node
use Rattle.cq_model.specs.declared.places.Places.{Places}
use Rattle.cq_model.specs.NodeListData.{NodeListData}
use Rattle.cq_model.specs.NodeTerms.{made_terms, made_step, cell_place, StandsAt, StandsFor, EachStands, IsNodeAt}
use Rattle.cq_model.specs.Pushing.{HavePlaces, AreReadable, IsReadable, IsPlacing, AreTermsOf, IsPushed}
use Rattle.cq_theory.specs.declared.constant.Con.{Con}
use Rattle.cq_theory.specs.declared.presentation.Presentation.{Presentation}
use Rattle.cq_theory.specs.SchemaData.{SchemaData as Schema}
use Rattle.cq_theory.specs.declared.term.EntTerm.{EntTerm}
use Rattle.cq_theory.specs.declared.term.TypeTerm.{TypeTerm}
use Rattle.cq_theory.specs.declared.term.TypeTerm.TheVariants as term
use Rattle.cq_theory.specs.declared.term.TypeTerm.TheVariants.{rolls-Const, rolls-Fun}
use Rattle.cq_theory.specs.declared.term.TypeTerm.TheOpen as layer
use Rattle.cq_theory.specs.declared.term.TypeTerm.TheViews.{out-TypeTerm, out-roll-TypeTerm}
use Rattle.cq_theory.specs.Sorts.{Generators, type_of, type_step, type_at, entity_of}
use Rattle.cq_theory.proofs.TypeTerms.{fold-Gen, para-Gen, para-Const, para-Att, para-Fun}
use Rattle.cq_instance.proofs.Lists.{get-append_front, map-append}
use Rattle.cq_model.proofs.Variants.{out-Att}
use Rattle.cq_model.proofs.PlacedLeaves.{out-Gen}

pub out-Const : (c : Con) → out-TypeTerm (term.Const c) ≡ layer.Const c
out-Const c = ap out-TypeTerm (sym (rolls-Const c)) ∙ out-roll-TypeTerm (layer.Const c)

pub out-Fun : (f : ℕ) (ts : List TypeTerm) → out-TypeTerm (term.Fun f ts) ≡ layer.Fun f ts
out-Fun f ts = ap out-TypeTerm (sym (rolls-Fun f ts)) ∙ out-roll-TypeTerm (layer.Fun f ts)

pub made-Gen : (n : ℕ) → made_terms (term.Gen n) ≡ []
made-Gen n = para-Gen (List TypeTerm) made_step n

pub made-Const : (c : Con) → made_terms (term.Const c) ≡ term.Const c ∷ []
made-Const c = para-Const (List TypeTerm) made_step c

pub made-Att : (a : ℕ) (t : EntTerm) → made_terms (term.Att a t) ≡ []
made-Att a t = para-Att (List TypeTerm) made_step a t

same_terms : (ts : List TypeTerm) → map (λ (arg : TypeTerm × List TypeTerm). arg.0) (map (λ t. (t, made_terms t)) ts) ≡ ts
same_terms [] = refl
same_terms (t ∷ ts) = ap (λ (l : List TypeTerm). t ∷ l) (same_terms ts)

pub made-Fun : (f : ℕ) (ts : List TypeTerm) → made_terms (term.Fun f ts) ≡ flat_map made_terms ts ++ term.Fun f ts ∷ []
made-Fun f ts =
    para-Fun (List TypeTerm) made_step f ts
    ∙ (λ i. flat_map-map (λ (arg : TypeTerm × List TypeTerm). arg.1) (λ t. (t, made_terms t)) ts i ++ term.Fun f (same_terms ts i) ∷ [])

-- one more at the end
pub one_more : {X : Type 0} (xs : List X) (x : X) (i : ℕ) (y : X) → slice_get (xs ++ x ∷ []) i ≡ Some y → (slice_get xs i ≡ Some y) ⊎ ((i ≡ length xs) × (y ≡ x))
one_more [] x zero y h = inr (refl, sym (same_Some x y h))
one_more [] x (suc i) y h = inl h
one_more (z ∷ zs) x zero y h = inl h
one_more (z ∷ zs) x (suc i) y h = elim (one_more zs x i y h) [ inl a ↦ inl a | inr b ↦ inr (ap suc b.0, b.1) ]

all_snoc : (xs : List ℕ) (x n : ℕ) → ((k d : ℕ) → k < length xs → get_or xs k d < n) → x < n → (k d : ℕ) → k < length (xs ++ x ∷ []) → get_or (xs ++ x ∷ []) k d < n
all_snoc [] x n h g zero d less = g
all_snoc [] x n h g (suc k) d less = absurd (omega arith)
all_snoc (y ∷ ys) x n h g zero d less = h 0 d (omega arith)
all_snoc (y ∷ ys) x n h g (suc k) d less = all_snoc ys x n (λ j e l. h (suc j) e (omega arith)) g k d (omega arith)

module _ (m : Content) (rows : List ℕ) (places : Places) (terms more : List TypeTerm) where
  StandsAt-more : (t : layer.TypeTerm-F TypeTerm) (p : ℕ) → StandsAt m rows places terms t p → StandsAt m rows places (terms ++ more) t p
  StandsAt-more (layer.Gen n) p h = h
  StandsAt-more (layer.Const c) p h = get-append_front terms more p (term.Const c) h
  StandsAt-more (layer.Att a t) p h = h
  StandsAt-more (layer.Fun f args) p h = get-append_front terms more p (term.Fun f args) h

  pub StandsFor-more : (t : TypeTerm) (p : ℕ) → StandsFor m rows places terms t p → StandsFor m rows places (terms ++ more) t p
  StandsFor-more t p h = StandsAt-more (out-TypeTerm t) p h

  pub EachStands-more : (ts : List TypeTerm) (ps : List ℕ) → EachStands m rows places terms ts ps → EachStands m rows places (terms ++ more) ts ps
  EachStands-more [] [] h = tt
  EachStands-more (t ∷ ts) (p ∷ ps) h = (StandsFor-more t p h.0, EachStands-more ts ps h.1)
  EachStands-more [] (p ∷ ps) h = absurd h
  EachStands-more (t ∷ ts) [] h = absurd h

  IsNodeAt-more : (p : ℕ) (t : layer.TypeTerm-F TypeTerm) (content : Node) → IsNodeAt m rows places terms p t content → IsNodeAt m rows places (terms ++ more) p t content
  IsNodeAt-more p (layer.Gen n) content h = h
  IsNodeAt-more p (layer.Const c) content h = h
  IsNodeAt-more p (layer.Att a t) content h = h
  IsNodeAt-more p (layer.Fun f args) content h = (h.0, h.1, EachStands-more args h.0 h.2, h.3)

pub EachStands-append : (m : Content) (rows : List ℕ) (places : Places) (terms : List TypeTerm) (ts : List TypeTerm) (ps : List ℕ) (t : TypeTerm) (p : ℕ) → EachStands m rows places terms ts ps
    → StandsFor m rows places terms t p → EachStands m rows places terms (ts ++ t ∷ []) (ps ++ p ∷ [])
EachStands-append m rows places terms [] [] t p h g = (g, tt)
EachStands-append m rows places terms (u ∷ us) (q ∷ qs) t p h g = (h.0, EachStands-append m rows places terms us qs t p h.1 g)
EachStands-append m rows places terms [] (q ∷ qs) t p h g = absurd h
EachStands-append m rows places terms (u ∷ us) [] t p h g = absurd h

module _ (S : Schema) (m : Content) (places : Places) where
  pub HavePlaces-wider : (a b : ℕ) → a ≤ b → HavePlaces S m places a → HavePlaces S m places b
  HavePlaces-wider a b le h = record {
    whole = h.whole;
    keys = h.keys;
    filled = h.filled;
    firsts = h.firsts;
    ranks = h.ranks;
    cells = λ r k edge live found from. let c = h.cells r k edge live found from in omega (arith, c, le);
  }

  pub AreReadable-wider : (G : Generators) (rows : List ℕ) (a b : ℕ) → a ≤ b → AreReadable S m places G rows a → AreReadable S m places G rows b
  AreReadable-wider G rows a b le h = record {
    known = h.known;
    live = h.live;
    entity = h.entity;
    placed = h.placed;
    leaf = λ g type sort. let l = h.leaf g type sort in omega (arith, l, le);
  }

  module _ (P : Presentation) (entries : List ℕ) where
    -- one node more
    pub terms_more : (terms : List TypeTerm) (old new : NodeListData) (t : TypeTerm) (content : Node) (kind : ℕ) → AreTermsOf S m places P entries terms old
        → new.nodes ≡ old.nodes ++ content ∷ [] → new.types ≡ old.types ++ kind ∷ [] → IsNodeAt m entries places (terms ++ t ∷ []) (length terms) (out-TypeTerm t) content
        → type_of S P.generators t ≡ Some kind → AreTermsOf S m places P entries (terms ++ t ∷ []) new
    terms_more terms old new t content kind h nodes_are types_are is sort = record {
      nodes = record {
        count = ap length nodes_are ∙ length-append old.nodes (content ∷ []) ∙ ap (λ n. n + 1) h.nodes.count ∙ sym (length-append terms (t ∷ []));
        each = λ p u found at found_at. node_at p u found (one_more terms t p u at) (one_more old.nodes content p found (ap (λ (l : List Node). slice_get l p) (sym nodes_are) ∙ found_at));
      };
      types = record {
        count = ap length types_are ∙ length-append old.types (kind ∷ []) ∙ ap (λ n. n + 1) h.types.count ∙ sym (length-append terms (t ∷ []));
        each = λ p found u at found_at. kind_at p found u (one_more terms t p u at) (one_more old.types kind p found (ap (λ (l : List ℕ). slice_get l p) (sym types_are) ∙ found_at));
      };
    }
      where
        past : {X : Type 0} (xs : List X) (x : X) (i n : ℕ) → slice_get xs i ≡ Some x → length xs ≡ n → i ≡ n → ⊥
        past xs x i n a size e = omega (arith, slice_get_within xs i x a, size, e)

        node_at : (p : ℕ) (u : TypeTerm) (found : Node) → (slice_get terms p ≡ Some u) ⊎ ((p ≡ length terms) × (u ≡ t)) → (slice_get old.nodes p ≡ Some found) ⊎ ((p ≡ length old.nodes) × (found ≡ content))
            → IsNodeAt m entries places (terms ++ t ∷ []) p (out-TypeTerm u) found
        node_at p u found (inl a) (inl b) = IsNodeAt-more m entries places terms (t ∷ []) p (out-TypeTerm u) found (h.nodes.each p u found a b)
        node_at p u found (inl a) (inr b) = absurd (past terms u p (length old.nodes) a (sym h.nodes.count) b.0)
        node_at p u found (inr a) (inl b) = absurd (past old.nodes found p (length terms) b h.nodes.count a.0)
        node_at p u found (inr a) (inr b) =
            subst (λ (y : ℕ × (TypeTerm × Node)). IsNodeAt m entries places (terms ++ t ∷ []) y.0 (out-TypeTerm y.1.0) y.1.1) (λ i. (sym a.0 i, (sym a.1 i, sym b.1 i))) is

        kind_at : (p found : ℕ) (u : TypeTerm) → (slice_get terms p ≡ Some u) ⊎ ((p ≡ length terms) × (u ≡ t)) → (slice_get old.types p ≡ Some found) ⊎ ((p ≡ length old.types) × (found ≡ kind))
            → type_of S P.generators u ≡ Some found
        kind_at p found u (inl a) (inl b) = h.types.each p found u a b
        kind_at p found u (inl a) (inr b) = absurd (past terms u p (length old.types) a (sym h.types.count) b.0)
        kind_at p found u (inr a) (inl b) = absurd (past old.types found p (length terms) b h.types.count a.0)
        kind_at p found u (inr a) (inr b) = ap (type_of S P.generators) a.1 ∙ sort ∙ ap (λ x. Some x) (sym b.1)

  -- a term without nodes of its own
  nothing_made : (P : Presentation) (entries : List ℕ) (terms made : List TypeTerm) (list : NodeListData) (t : TypeTerm) (p : ℕ) → made ≡ [] → AreTermsOf S m places P entries terms list
      → StandsFor m entries places terms t p → AreTermsOf S m places P entries (terms ++ made) list × StandsFor m entries places (terms ++ made) t p
  nothing_made P entries terms made list t p none h stands =
      subst (λ (l : List TypeTerm). AreTermsOf S m places P entries l list × StandsFor m entries places l t p) (sym (append-nil terms) ∙ ap (λ (l : List TypeTerm). terms ++ l) (sym none)) (h, stands)

  pub pushed_gen : (rows : List ℕ) (list : NodeListData) (n place : ℕ) → place ≡ slice_index places.generators n → IsReadable S m places rows (length list.nodes) (term.Gen n)
      → IsPushed S m places rows list list (term.Gen n) place
  pushed_gen rows list n place is h = record {
    equations = refl;
    grows = omega arith;
    kept = λ p content at. at;
    within =
        (let sort : type_at (slice_get h.generators n) ≡ Some h.type = sym (fold-Gen (Option ℕ) (type_step S h.generators) n) ∙ h.sort in
        let leaf = h.readable.leaf n h.type sort in
        omega (arith, leaf, is));
    listed = λ P entries G placed named terms type placing sort terms_are.
        subst (λ (u : TypeTerm). AreTermsOf S m places P entries (terms ++ made_terms u) list × StandsFor m entries places (terms ++ made_terms u) u place) (sym (placing.gen n))
        (nothing_made P entries terms (made_terms (term.Gen n)) list (term.Gen n) place (made-Gen n) terms_are
        (subst (λ (x : layer.TypeTerm-F TypeTerm). StandsAt m entries places terms x place) (sym (out-Gen n)) is));
  }

  pub pushed_cell : (rows : List ℕ) (list : NodeListData) (a r place : ℕ) (t : EntTerm) → row_of_term m rows t ≡ Some r → place ≡ cell_place places r a → place < length list.nodes
      → ((G : Generators) (type : ℕ) → type_of S G (term.Att a t) ≡ Some type → (e : ℕ) × (entity_of S G t ≡ Some e)) → IsPushed S m places rows list list (term.Att a t) place
  pushed_cell rows list a r place t leads is within sorted = record {
    equations = refl;
    grows = omega arith;
    kept = λ p content at. at;
    within = within;
    listed = λ P entries G placed named terms type placing sort terms_are.
        subst (λ (u : TypeTerm). AreTermsOf S m places P entries (terms ++ made_terms u) list × StandsFor m entries places (terms ++ made_terms u) u place) (sym (placing.attribute a t))
        (nothing_made P entries terms (made_terms (term.Att a (named t))) list (term.Att a (named t)) place (made-Att a (named t)) terms_are
        (subst (λ (x : layer.TypeTerm-F TypeTerm). StandsAt m entries places terms x place) (sym (out-Att a (named t)))
        (r, (let e = sorted G type sort in placing.row t e.0 e.1) ∙ leads, is)));
  }

  pub last_term : (terms : List TypeTerm) (t : TypeTerm) → slice_get (terms ++ t ∷ []) (length terms) ≡ Some t
  last_term [] t = refl
  last_term (u ∷ us) t = last_term us t

  pub pushed_const : (rows : List ℕ) (old new : NodeListData) (c : Con) (kind place : ℕ) → place ≡ length old.nodes
      → new ≡ record { nodes = old.nodes ++ node.Const c ∷ []; types = old.types ++ kind ∷ []; equations = old.equations }
      → ((G : Generators) (type : ℕ) → type_of S G (term.Const c) ≡ Some type → type ≡ kind) → IsPushed S m places rows old new (term.Const c) place
  pushed_const rows old new c kind place place_is added kinds = record {
    equations = ap (λ (l : NodeListData). l.equations) added;
    grows = omega (arith, ap (λ (l : NodeListData). length l.nodes) added, length-append old.nodes (node.Const c ∷ []));
    kept = λ p content at. ap (λ (l : NodeListData). slice_get l.nodes p) added ∙ get-append_front old.nodes (node.Const c ∷ []) p content at;
    within = omega (arith, ap (λ (l : NodeListData). length l.nodes) added, length-append old.nodes (node.Const c ∷ []), place_is);
    listed = λ P entries G placed named terms type placing sort terms_are.
        subst (λ (u : TypeTerm). AreTermsOf S m places P entries (terms ++ made_terms u) new × StandsFor m entries places (terms ++ made_terms u) u place) (sym (placing.constant c))
        (subst (λ (l : List TypeTerm). AreTermsOf S m places P entries (terms ++ l) new × StandsFor m entries places (terms ++ l) (term.Const c) place) (sym (made-Const c)) (
          terms_more P entries terms old new (term.Const c) (node.Const c) kind terms_are (ap (λ (l : NodeListData). l.nodes) added) (ap (λ (l : NodeListData). l.types) added)
              (subst (λ (x : layer.TypeTerm-F TypeTerm). IsNodeAt m entries places (terms ++ term.Const c ∷ []) (length terms) x (node.Const c)) (sym (out-Const c)) refl)
              (ap (type_of S P.generators) (sym (placing.constant c)) ∙ placing.sort (term.Const c) type sort ∙ ap (λ x. Some x) (kinds G type sort)),
          subst (λ (x : layer.TypeTerm-F TypeTerm). StandsAt m entries places (terms ++ term.Const c ∷ []) x place) (sym (out-Const c))
              (ap (slice_get (terms ++ term.Const c ∷ [])) (place_is ∙ terms_are.nodes.count) ∙ last_term terms (term.Const c)),
        ));
  }

  -- the arguments of a term so far
  pub record ArePushed (rows : List ℕ) (old new : NodeListData) (ts : List TypeTerm) (found : List ℕ) : Type 0 where
    pub equations : new.equations ≡ old.equations
    pub grows : length old.nodes ≤ length new.nodes
    pub kept : (p : ℕ) (content : Node) → slice_get old.nodes p ≡ Some content → slice_get new.nodes p ≡ Some content
    pub within : All (λ p. p < length new.nodes) found
    pub listed : (P : Presentation) (entries : List ℕ) (G : Generators) (placed : TypeTerm → TypeTerm) (named : EntTerm → EntTerm) (terms : List TypeTerm)
        → IsPlacing S m places P entries G rows placed named → ((i : ℕ) (t : TypeTerm) → slice_get ts i ≡ Some t → (type : ℕ) × (type_of S G t ≡ Some type)) → AreTermsOf S m places P entries terms old
        → AreTermsOf S m places P entries (terms ++ flat_map made_terms (map placed ts)) new × EachStands m entries places (terms ++ flat_map made_terms (map placed ts)) (map placed ts) found

  pub pushed_none : (rows : List ℕ) (list : NodeListData) → ArePushed rows list list [] []
  pushed_none rows list = record {
    equations = refl;
    grows = omega arith;
    kept = λ p content at. at;
    within = λ i d h. absurd (omega arith);
    listed = λ P entries G placed named terms placing sorts terms_are.
        (subst (λ (l : List TypeTerm). AreTermsOf S m places P entries l list) (sym (append-nil terms)) terms_are, tt);
  }

  pub pushed_more : (rows : List ℕ) (old mid new : NodeListData) (ts : List TypeTerm) (found : List ℕ) (t : TypeTerm) (place : ℕ) → ArePushed rows old mid ts found → IsPushed S m places rows mid new t place
      → ArePushed rows old new (ts ++ t ∷ []) (found ++ place ∷ [])
  pushed_more rows old mid new ts found t place before h = record {
    equations = h.equations ∙ before.equations;
    grows = omega (arith, h.grows, before.grows);
    kept = λ p content at. h.kept p content (before.kept p content at);
    within = all_snoc found place (length new.nodes) (λ k d less. omega (arith, before.within k d less, h.grows)) h.within;
    listed = λ P entries G placed named terms placing sorts terms_are.
        let first = before.listed P entries G placed named terms placing (λ i u at. sorts i u (get-append_front ts (t ∷ []) i u at)) terms_are in
        let type : (type : ℕ) × (type_of S G t ≡ Some type) = sorts (length ts) t (last_term ts t) in
        let last = h.listed P entries G placed named (terms ++ flat_map made_terms (map placed ts)) type.0 placing type.1 first.0 in
        let parts : map placed (ts ++ t ∷ []) ≡ map placed ts ++ placed t ∷ [] = map-append placed ts (t ∷ []) in
        let whole : (terms ++ flat_map made_terms (map placed ts)) ++ made_terms (placed t) ≡ terms ++ flat_map made_terms (map placed ts ++ placed t ∷ []) =
        append_assoc terms (flat_map made_terms (map placed ts)) (made_terms (placed t))
        ∙ ap (λ (l : List TypeTerm). terms ++ l) (ap (λ (l : List TypeTerm). flat_map made_terms (map placed ts) ++ l) (sym (append-nil (made_terms (placed t)))) ∙ sym (flat_map-append made_terms (map placed ts) (placed t ∷ []))) in
        let stand : EachStands m entries places ((terms ++ flat_map made_terms (map placed ts)) ++ made_terms (placed t)) (map placed ts ++ placed t ∷ []) (found ++ place ∷ []) =
        EachStands-append m entries places ((terms ++ flat_map made_terms (map placed ts)) ++ made_terms (placed t)) (map placed ts) found (placed t) place
        (EachStands-more m entries places (terms ++ flat_map made_terms (map placed ts)) (made_terms (placed t)) (map placed ts) found first.1) last.1 in
        subst (λ (us : List TypeTerm). AreTermsOf S m places P entries (terms ++ flat_map made_terms us) new × EachStands m entries places (terms ++ flat_map made_terms us) us (found ++ place ∷ [])) (sym parts)
        (subst (λ (l : List TypeTerm). AreTermsOf S m places P entries l new × EachStands m entries places l (map placed ts ++ placed t ∷ []) (found ++ place ∷ [])) whole (last.0, stand));
  }

  -- the same as a loop over the arguments has it
  pub pushed_next : (rows : List ℕ) (old mid new : NodeListData) (items : List TypeTerm) (i : ℕ) (found longer : List ℕ) (t : TypeTerm) (place : ℕ) → ArePushed rows old mid (take i items) found
      → IsPushed S m places rows mid new t place → i < length items → t ≡ get_or items i t → longer ≡ found ++ place ∷ [] → ArePushed rows old new (take (i + 1) items) longer
  pushed_next rows old mid new items i found longer t place before h within is longer_is =
      let more : ArePushed rows old new (take i items ++ t ∷ []) (found ++ place ∷ []) = pushed_more rows old mid new (take i items) found t place before h in
      let ts : take i items ++ t ∷ [] ≡ take (i + 1) items = ap (λ (u : TypeTerm). take i items ++ u ∷ []) is ∙ sym (take_more items i t within) in
      subst (λ (both : List TypeTerm × List ℕ). ArePushed rows old new both.0 both.1) (λ j. (ts j, sym longer_is j)) more

  pub pushed_fun : (rows : List ℕ) (old mid new : NodeListData) (f kind place : ℕ) (ts : List TypeTerm) (found : List ℕ) → ArePushed rows old mid ts found → place ≡ length mid.nodes
      → new ≡ record { nodes = mid.nodes ++ node.Fun f found ∷ []; types = mid.types ++ kind ∷ []; equations = mid.equations }
      → ((G : Generators) (type : ℕ) → type_of S G (term.Fun f ts) ≡ Some type → (type ≡ kind) × ((i : ℕ) (t : TypeTerm) → slice_get ts i ≡ Some t → (type' : ℕ) × (type_of S G t ≡ Some type')))
      → IsPushed S m places rows old new (term.Fun f ts) place
  pushed_fun rows old mid new f kind place ts found before place_is added kinds = record {
    equations = ap (λ (l : NodeListData). l.equations) added ∙ before.equations;
    grows = omega (arith, ap (λ (l : NodeListData). length l.nodes) added, length-append mid.nodes (node.Fun f found ∷ []), before.grows);
    kept = λ p content at. ap (λ (l : NodeListData). slice_get l.nodes p) added ∙ get-append_front mid.nodes (node.Fun f found ∷ []) p content (before.kept p content at);
    within = omega (arith, ap (λ (l : NodeListData). length l.nodes) added, length-append mid.nodes (node.Fun f found ∷ []), place_is);
    listed = λ P entries G placed named terms type placing sort terms_are.
        let us : List TypeTerm = map placed ts in
        let first = before.listed P entries G placed named terms placing (kinds G type sort).1 terms_are in
        let all : List TypeTerm = terms ++ flat_map made_terms us in
        let t : TypeTerm = term.Fun f us in
        let whole : all ++ t ∷ [] ≡ terms ++ made_terms t = append_assoc terms (flat_map made_terms us) (t ∷ []) ∙ ap (λ (l : List TypeTerm). terms ++ l) (sym (made-Fun f us)) in
        let here : length mid.nodes ≡ length all = first.0.nodes.count in
        let args_below : All (λ p. p < length all) found = subst (λ n. All (λ p. p < n) found) here before.within in
        let made : AreTermsOf S m places P entries (all ++ t ∷ []) new =
        terms_more P entries all mid new t (node.Fun f found) kind first.0 (ap (λ (l : NodeListData). l.nodes) added) (ap (λ (l : NodeListData). l.types) added)
        (subst (λ (x : layer.TypeTerm-F TypeTerm). IsNodeAt m entries places (all ++ t ∷ []) (length all) x (node.Fun f found)) (sym (out-Fun f us))
        (found, refl, EachStands-more m entries places all (t ∷ []) us found first.1, args_below))
        (ap (type_of S P.generators) (sym (placing.function f ts)) ∙ placing.sort (term.Fun f ts) type sort ∙ ap (λ x. Some x) (kinds G type sort).0) in
        let stands : StandsFor m entries places (all ++ t ∷ []) t place =
        subst (λ (x : layer.TypeTerm-F TypeTerm). StandsAt m entries places (all ++ t ∷ []) x place) (sym (out-Fun f us)) (ap (slice_get (all ++ t ∷ [])) (place_is ∙ here) ∙ last_term all t) in
        subst (λ (u : TypeTerm). AreTermsOf S m places P entries (terms ++ made_terms u) new × StandsFor m entries places (terms ++ made_terms u) u place) (sym (placing.function f ts))
        (subst (λ (l : List TypeTerm). AreTermsOf S m places P entries l new × StandsFor m entries places l t place) whole (made, stands));
  }
