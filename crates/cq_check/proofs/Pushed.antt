-- Terms that are added to a list of nodes.
use Rattle.std.proofs.Common.{ℕ, zero, suc, Bool, true, false, List, [], ◌∷◌, ◌++◌, Option, Some, None, ◌≡◌, ◌<◌, ◌≤◌, ◌+◌, ◌&&◌, map, length, take, get_or, refl, sym, ap, subst, ◌∙◌, arith, length-append, ◌⊎◌, inl, inr}
use Rattle.std.specs.Prelude.{slice_get, slice_index, is_some, All, MatchOption}
use Rattle.std.proofs.lemmas.Bool.{cases_lt}
use Rattle.std.proofs.lemmas.List.{take_more}
use Rattle.std.proofs.lemmas.List.Elements.{All-nil, All-push, All-weaker}
use Rattle.std.proofs.lemmas.Option.{slice_get_within}
use Rattle.cq_tables.specs.Content.{Content, made_of}
use Rattle.cq_rows.specs.Rows.{row_of_term}
use Rattle.cq_rows.proofs.Tracing.{trace_leads}
use Rattle.cq_flat.specs.declared.node.Node.{Node}
use Rattle.cq_flat.specs.declared.node.Node.TheVariants as node
use Rattle.cq_flat.specs.Nodes.{HasEarlierArguments}
use Rattle.cq_check.specs.NodeListData.{NodeListData}
use Rattle.cq_check.specs.Standing.{Stands, generator, constant, cell, function, EachStands, none, all_true, traced_step, is_traced}
use Rattle.cq_check.specs.Sound.{HasTerm}
use Rattle.cq_check.specs.Reading.{IsReadable}
use Rattle.cq_check.specs.Adding.{Extends, AreNamedFrom, IsPushed, IsEquated, AreSidesOf}
use Rattle.cq_check.proofs.Lists.{extends_append, last_at, one_more}
use Rattle.cq_check.proofs.Placed.{stands_more, each_more, each_append}
use Rattle.cq_check.proofs.Readable.{readable_cell, readable_leaf, readable_start}
use Rattle.cq_check.proofs.Typed.{IsTyped, EachTyped, args_typed}
use Rattle.cq_theory.specs.declared.constant.Con.{Con}
use Rattle.cq_theory.specs.SchemaData.{SchemaData as Schema}
use Rattle.cq_theory.specs.declared.term.EntTerm.{EntTerm}
use Rattle.cq_theory.specs.declared.term.TypeTerm.{TypeTerm}
use Rattle.cq_theory.specs.declared.term.TypeTerm.TheVariants as term
use Rattle.cq_theory.specs.Sorts.{Generators, type_of}
use Rattle.cq_theory.proofs.TypeTerms.{fold-Gen, fold-Const, fold-Att, fold-Fun}

-- a node with earlier arguments is added
pub earlier_more : (nodes : List Node) (n : Node) → HasEarlierArguments nodes → ((f : ℕ) (args : List ℕ) → n ≡ node.Fun f args → All (λ a. a < length nodes) args) → HasEarlierArguments (nodes ++ n ∷ [])
earlier_more nodes n before own p f args is = elim (one_more nodes n p (node.Fun f args) is) [
  | inl there ↦ before p f args there
  | inr last ↦ subst (λ k. All (λ a. a < k) args) (sym last.0) (own f args last.1)
]

args_of : (f g : ℕ) (xs ys : List ℕ) → node.Fun f xs ≡ node.Fun g ys → xs ≡ ys
args_of f g xs ys h = cc

all_append : (bs : List Bool) (b : Bool) → all_true bs ≡ true → b ≡ true → all_true (bs ++ b ∷ []) ≡ true
all_append [] b h h' = ap (λ c. c && true) h'
all_append (true ∷ bs) b h h' = all_append bs b h h'
all_append (false ∷ bs) b h h' = cc

not_all : (bs : List Bool) (i : ℕ) → slice_get bs i ≡ Some false → all_true bs ≡ false
not_all [] i h = cc
not_all (b ∷ bs) zero h = let same : b ≡ false = cc in ap (λ c. c && all_true bs) same
not_all (true ∷ bs) (suc i) h = not_all bs i h
not_all (false ∷ bs) (suc i) h = refl

mapped : {X Y : Type 0} (f : X → Y) (xs : List X) (i : ℕ) (x : X) → slice_get xs i ≡ Some x → slice_get (map f xs) i ≡ Some (f x)
mapped f [] i x h = cc
mapped f (y ∷ ys) zero x h = let same : y ≡ x = cc in ap (λ z. Some (f z)) same
mapped f (y ∷ ys) (suc i) x h = mapped f ys i x h

map_append : {X Y : Type 0} (f : X → Y) (xs : List X) (x : X) → map f (xs ++ x ∷ []) ≡ map f xs ++ f x ∷ []
map_append f [] x = refl
map_append f (y ∷ ys) x = ap (λ l. f y ∷ l) (map_append f ys x)

module _ (S : Schema) (G : Generators) where
  pub typed_front : (ts : List TypeTerm) (t : TypeTerm) → EachTyped S G (ts ++ t ∷ []) → EachTyped S G ts × IsTyped S G t
  typed_front [] t h = (tt, h.0)
  typed_front (u ∷ us) t h = let rest = typed_front us t h.1 in ((h.0, rest.0), rest.1)

module _ (m : Content) (rows : List ℕ) where
  pub HasTerm-more : (S : Schema) (G : Generators) (old new : List Node) (p : ℕ) → Extends old new → HasTerm S G m rows old p → HasTerm S G m rows new p
  HasTerm-more S G old new p longer h = record { term = h.term; type = h.type; sort = h.sort; stands = stands_more m rows old new longer h.stands }

  -- the nodes behind the first ones, and one more
  named_more : (S : Schema) (G : Generators) (first : ℕ) (nodes : List Node) (n : Node) → AreNamedFrom m rows S G first nodes → HasTerm S G m rows (nodes ++ n ∷ []) (length nodes)
      → AreNamedFrom m rows S G first (nodes ++ n ∷ [])
  named_more S G first nodes n before own p behind within = elim (cases_lt p (length nodes)) [
    | inl less ↦ HasTerm-more S G nodes (nodes ++ n ∷ []) p (extends_append nodes (n ∷ [])) (before p behind less)
    | inr le ↦ let here : length nodes ≡ p = omega (arith, le, within, length-append nodes (n ∷ [])) in subst (HasTerm S G m rows (nodes ++ n ∷ [])) here own
  ]

  none_named : (S : Schema) (G : Generators) (nodes : List Node) → AreNamedFrom m rows S G (length nodes) nodes
  none_named S G nodes p behind within = absurd (omega (arith, behind, within))

  -- nothing is added
  pub pushed_none : (nodes : List Node) (t : TypeTerm) → is_traced m rows t ≡ false → IsPushed m rows nodes nodes t None
  pushed_none nodes t untraced = record {
    extends = λ p x h. h;
    count = omega arith;
    earlier = λ h. h;
    named = λ S G type h. none_named S G nodes;
    place_is = untraced;
  }

  pub pushed_generator : (nodes : List Node) (n place : ℕ) (t : TypeTerm) → t ≡ term.Gen n → place ≡ made_of m + n → IsReadable m rows (length nodes) t → IsPushed m rows nodes nodes t (Some place)
  pushed_generator nodes n place t is at readable = record {
    extends = λ p x h. h;
    count = omega arith;
    earlier = λ h. h;
    named = λ S G type h. none_named S G nodes;
    place_is = (generator n is at, omega (arith, at, readable_leaf m rows (length nodes) n t is readable), ap (is_traced m rows) is ∙ fold-Gen Bool (traced_step m rows) n);
  }

  -- one node is added behind those of the parts
  pushed_last : (old mid : List Node) (n : Node) (t : TypeTerm) (place : ℕ) → Extends old mid → length old ≤ length mid → (HasEarlierArguments old → HasEarlierArguments mid)
      → ((f : ℕ) (args : List ℕ) → n ≡ node.Fun f args → All (λ a. a < length mid) args)
      → ((S : Schema) (G : Generators) (type : ℕ) → type_of S G t ≡ Some type → AreNamedFrom m rows S G (length old) mid)
      → place ≡ length mid → Stands m rows (mid ++ n ∷ []) t (length mid) → is_traced m rows t ≡ true → (new : List Node) → new ≡ mid ++ n ∷ [] → IsPushed m rows old new t (Some place)
  pushed_last old mid n t place longer count earlier args named at stands traced new new_is =
      subst (λ (l : List Node). IsPushed m rows old l t (Some place)) (sym new_is) (record {
        extends = λ p x h. extends_append mid (n ∷ []) p x (longer p x h);
        count = omega (arith, count, length-append mid (n ∷ []));
        earlier = λ h. earlier_more mid n (earlier h) args;
        named = λ S G type h. named_more S G (length old) mid n (named S G type h) (record { term = t; type = type; sort = h; stands = stands });
        place_is = (subst (Stands m rows (mid ++ n ∷ []) t) (sym at) stands, omega (arith, at, length-append mid (n ∷ [])), traced);
      })

  pub pushed_constant : (old new : List Node) (c : Con) (place : ℕ) (t : TypeTerm) → t ≡ term.Const c → place ≡ length old → new ≡ old ++ node.Const c ∷ [] → IsPushed m rows old new t (Some place)
  pushed_constant old new c place t is at new_is =
      pushed_last old old (node.Const c) t place (λ p x h. h) (omega arith) (λ h. h) (λ f args same. let wrong : node.Const c ≡ node.Fun f args = same in cc)
      (λ S G type h. none_named S G old) at (constant c is (last_at old (node.Const c))) (ap (is_traced m rows) is ∙ fold-Const Bool (traced_step m rows) c) new new_is

  untraced_cell : (a : ℕ) (u : EntTerm) (o : Option ℕ) → row_of_term m rows u ≡ o → is_traced m rows (term.Att a u) ≡ is_some o
  untraced_cell a u o leads = fold-Att Bool (traced_step m rows) a u ∙ ap is_some leads

  pub pushed_no_cell : (nodes : List Node) (a : ℕ) (u : EntTerm) (t : TypeTerm) → t ≡ term.Att a u → row_of_term m rows u ≡ None → IsPushed m rows nodes nodes t None
  pushed_no_cell nodes a u t is leads = pushed_none nodes t (ap (is_traced m rows) is ∙ untraced_cell a u None leads)

  pub pushed_cell : (old new : List Node) (a r place : ℕ) (u : EntTerm) (args : List ℕ) (t : TypeTerm) → t ≡ term.Att a u → row_of_term m rows u ≡ Some r → IsReadable m rows (length old) t
      → args ≡ r ∷ [] → place ≡ length old → new ≡ old ++ node.Fun a args ∷ [] → IsPushed m rows old new t (Some place)
  pushed_cell old new a r place u args t is leads readable args_are at new_is =
      let path = readable_cell m rows (length old) a u t is readable in
      let start = readable_start m rows (length old) u path in
      let led = trace_leads m (slice_index rows u.generator) r u.path path.readable.whole start.live leads in
      let within : r < length old = omega (arith, path.readable.whole.made r led.live, path.readable.nodes) in
      pushed_last old old (node.Fun a (r ∷ [])) t place (λ p x h. h) (omega arith) (λ h. h)
      (λ f xs same. subst (All (λ p. p < length old)) (args_of a f (r ∷ []) xs same) (All-push (λ p. p < length old) [] r (All-nil (λ p. p < length old)) within))
      (λ S G type h. none_named S G old) at (cell a r u is leads (last_at old (node.Fun a (r ∷ [])))) (ap (is_traced m rows) is ∙ untraced_cell a u (Some r) leads) new
      (new_is ∙ ap (λ (l : List ℕ). old ++ node.Fun a l ∷ []) args_are)

  -- the arguments of a term so far
  pub record ArePushed (old new : List Node) (ts : List TypeTerm) (found : List ℕ) : Type 0 where
    pub extends : Extends old new
    pub count : length old ≤ length new
    pub earlier : HasEarlierArguments old → HasEarlierArguments new
    pub within : All (λ p. p < length new) found
    pub named : (S : Schema) (G : Generators) → EachTyped S G ts → AreNamedFrom m rows S G (length old) new
    pub stands : EachStands m rows new ts found
    pub traced : all_true (map (is_traced m rows) ts) ≡ true

  pub no_arguments : (nodes : List Node) → ArePushed nodes nodes [] []
  no_arguments nodes = record {
    extends = λ p x h. h;
    count = omega arith;
    earlier = λ h. h;
    within = All-nil (λ p. p < length nodes);
    named = λ S G typed. none_named S G nodes;
    stands = none;
    traced = refl;
  }

  -- what is named by an argument and by those before it
  named_both : (S : Schema) (G : Generators) (first : ℕ) (mid new : List Node) → Extends mid new → AreNamedFrom m rows S G first mid → AreNamedFrom m rows S G (length mid) new → AreNamedFrom m rows S G first new
  named_both S G first mid new longer before after p behind within = elim (cases_lt p (length mid)) [
    | inl less ↦ HasTerm-more S G mid new p longer (before p behind less)
    | inr le ↦ after p le within
  ]

  pub one_argument_more : (old mid new : List Node) (ts : List TypeTerm) (found : List ℕ) (t : TypeTerm) (place : ℕ) → ArePushed old mid ts found → IsPushed m rows mid new t (Some place)
      → ArePushed old new (ts ++ t ∷ []) (found ++ place ∷ [])
  one_argument_more old mid new ts found t place before h = record {
    extends = λ p x at. h.extends p x (before.extends p x at);
    count = omega (arith, before.count, h.count);
    earlier = λ e. h.earlier (before.earlier e);
    within = All-push (λ p. p < length new) found place (All-weaker (λ p. p < length mid) (λ p. p < length new) (λ p less. omega (arith, less, h.count)) found before.within) h.place_is.1;
    named = λ S G typed.
        let parts = typed_front S G ts t typed in
        named_both S G (length old) mid new h.extends (before.named S G parts.0) (h.named S G parts.1.0 parts.1.1);
    stands = each_append m rows new t place h.place_is.0 (each_more m rows mid new h.extends before.stands);
    traced = ap all_true (map_append (is_traced m rows) ts t) ∙ all_append (map (is_traced m rows) ts) (is_traced m rows t) before.traced h.place_is.2;
  }

  -- the same as a loop over the arguments has it
  pub next_argument : (old mid new : List Node) (items : List TypeTerm) (i : ℕ) (found longer : List ℕ) (t : TypeTerm) (place : ℕ) (o : Option ℕ) → ArePushed old mid (take i items) found
      → IsPushed m rows mid new t o → o ≡ Some place → i < length items → t ≡ get_or items i t → longer ≡ found ++ place ∷ [] → ArePushed old new (take (i + 1) items) longer
  next_argument old mid new items i found longer t place o before h some within is longer_is =
      let more : ArePushed old new (take i items ++ t ∷ []) (found ++ place ∷ []) = one_argument_more old mid new (take i items) found t place before (subst (IsPushed m rows mid new t) some h) in
      let ts : take i items ++ t ∷ [] ≡ take (i + 1) items = ap (λ (u : TypeTerm). take i items ++ u ∷ []) is ∙ sym (take_more items i t within) in
      subst (λ (both : List TypeTerm × List ℕ). ArePushed old new both.0 both.1) (λ j. (ts j, sym longer_is j)) more

  pub pushed_function : (old mid new : List Node) (f place : ℕ) (ts : List TypeTerm) (found args : List ℕ) (t : TypeTerm) → t ≡ term.Fun f ts → ArePushed old mid ts found → args ≡ found
      → place ≡ length mid → new ≡ mid ++ node.Fun f args ∷ [] → IsPushed m rows old new t (Some place)
  pushed_function old mid new f place ts found args t is before args_are at new_is =
      pushed_last old mid (node.Fun f found) t place before.extends before.count before.earlier
      (λ g xs same. subst (All (λ p. p < length mid)) (args_of f g found xs same) before.within)
      (λ S G type h. before.named S G (args_typed S G f ts type (ap (type_of S G) (sym is) ∙ h)))
      at (function f ts found is (last_at mid (node.Fun f found)) (each_more m rows mid (mid ++ node.Fun f found ∷ []) (extends_append mid (node.Fun f found ∷ [])) before.stands))
      (ap (is_traced m rows) is ∙ fold-Fun Bool (traced_step m rows) f ts ∙ before.traced) new
      (new_is ∙ ap (λ (l : List ℕ). mid ++ node.Fun f l ∷ []) args_are)

  -- an argument can't be traced
  pub pushed_no_function : (old mid new : List Node) (f i : ℕ) (ts : List TypeTerm) (found : List ℕ) (t u : TypeTerm) (o : Option ℕ) → t ≡ term.Fun f ts → slice_get ts i ≡ Some u
      → ArePushed old mid (take i ts) found → IsPushed m rows mid new u o → o ≡ None → IsPushed m rows old new t None
  pushed_no_function old mid new f i ts found t u o is at before h absent = record {
    extends = λ p x there. h.extends p x (before.extends p x there);
    count = omega (arith, before.count, h.count);
    earlier = λ e. h.earlier (before.earlier e);
    named = λ S G type sort.
        let typed = args_typed S G f ts type (ap (type_of S G) (sym is) ∙ sort) in
        let own = typed_place S G ts i u at typed in
        named_both S G (length old) mid new h.extends (before.named S G (typed_take S G ts i typed)) (h.named S G own.0 own.1);
    place_is =
        let untraced : is_traced m rows u ≡ false = subst (λ x. MatchOption x (is_traced m rows u ≡ false) (λ p. Stands m rows new u p × (p < length new) × (is_traced m rows u ≡ true))) absent h.place_is in
        ap (is_traced m rows) is ∙ fold-Fun Bool (traced_step m rows) f ts
        ∙ not_all (map (is_traced m rows) ts) i (mapped (is_traced m rows) ts i u at ∙ ap (λ b. Some b) untraced);
  } where
    typed_place : (S : Schema) (G : Generators) (ts : List TypeTerm) (i : ℕ) (u : TypeTerm) → slice_get ts i ≡ Some u → EachTyped S G ts → IsTyped S G u
    typed_place S G [] i u at typed = cc
    typed_place S G (t ∷ ts) zero u at typed = let same : t ≡ u = cc in subst (IsTyped S G) same typed.0
    typed_place S G (t ∷ ts) (suc i) u at typed = typed_place S G ts i u at typed.1

    typed_take : (S : Schema) (G : Generators) (ts : List TypeTerm) (i : ℕ) → EachTyped S G ts → EachTyped S G (take i ts)
    typed_take S G [] zero typed = tt
    typed_take S G [] (suc i) typed = tt
    typed_take S G (t ∷ ts) zero typed = tt
    typed_take S G (t ∷ ts) (suc i) typed = (typed.0, typed_take S G ts i typed.1)

  -- Equations with their sides. Where a side can't be traced nothing is added but nodes.
  abbrev only_nodes : NodeListData → List Node → NodeListData
  only_nodes old nodes = record { nodes = nodes; equations = old.equations }

  pub equated_not_left : (old new : NodeListData) (t u : TypeTerm) (nodes : List Node) (o : Option ℕ) → new ≡ only_nodes old nodes → IsPushed m rows old.nodes nodes t o → o ≡ None → IsEquated m rows old new t u
  equated_not_left old new t u nodes o new_is h absent = subst (λ (l : NodeListData). IsEquated m rows old l t u) (sym new_is) (record {
    grows = record { nodes = h.extends; count = h.count; equations = λ i e at. at };
    earlier = h.earlier;
    named = λ S G type left right. h.named S G type left;
    sides = λ i a b behind at. absurd (omega (arith, behind, slice_get_within old.equations i (a, b) at));
    has = λ traced _.
        let untraced : is_traced m rows t ≡ false = subst (λ x. MatchOption x (is_traced m rows t ≡ false) (λ p. Stands m rows nodes t p × (p < length nodes) × (is_traced m rows t ≡ true))) absent h.place_is in
        let wrong : true ≡ false = sym traced ∙ untraced in
        cc;
  })

  pub equated_not_right : (old new : NodeListData) (t u : TypeTerm) (mid nodes : List Node) (o q : Option ℕ) → new ≡ only_nodes old nodes → IsPushed m rows old.nodes mid t o → IsPushed m rows mid nodes u q → q ≡ None
      → IsEquated m rows old new t u
  equated_not_right old new t u mid nodes o q new_is h g absent = subst (λ (l : NodeListData). IsEquated m rows old l t u) (sym new_is) (record {
    grows = record { nodes = λ p x at. g.extends p x (h.extends p x at); count = omega (arith, h.count, g.count); equations = λ i e at. at };
    earlier = λ e. g.earlier (h.earlier e);
    named = λ S G type left right. named_both S G (length old.nodes) mid nodes g.extends (h.named S G type left) (g.named S G type right);
    sides = λ i a b behind at. absurd (omega (arith, behind, slice_get_within old.equations i (a, b) at));
    has = λ _ traced.
        let untraced : is_traced m rows u ≡ false = subst (λ x. MatchOption x (is_traced m rows u ≡ false) (λ p. Stands m rows nodes u p × (p < length nodes) × (is_traced m rows u ≡ true))) absent g.place_is in
        let wrong : true ≡ false = sym traced ∙ untraced in
        cc;
  })

  pub equated_both : (old new : NodeListData) (t u : TypeTerm) (mid nodes : List Node) (o q : Option ℕ) (a b : ℕ) → new ≡ record { nodes = nodes; equations = old.equations ++ (a, b) ∷ [] }
      → IsPushed m rows old.nodes mid t o → o ≡ Some a → IsPushed m rows mid nodes u q → q ≡ Some b → IsEquated m rows old new t u
  equated_both old new t u mid nodes o q a b new_is h first g second =
      let left : IsPushed m rows old.nodes mid t (Some a) = subst (IsPushed m rows old.nodes mid t) first h in
      let right : IsPushed m rows mid nodes u (Some b) = subst (IsPushed m rows mid nodes u) second g in
      let left_stands : Stands m rows nodes t a = stands_more m rows mid nodes g.extends left.place_is.0 in
      let right_stands : Stands m rows nodes u b = right.place_is.0 in
      subst (λ (l : NodeListData). IsEquated m rows old l t u) (sym new_is) (record {
        grows = record { nodes = λ p x at. g.extends p x (h.extends p x at); count = omega (arith, h.count, g.count); equations = extends_append old.equations ((a, b) ∷ []) };
        earlier = λ e. g.earlier (h.earlier e);
        named = λ S G type left right. named_both S G (length old.nodes) mid nodes g.extends (h.named S G type left) (g.named S G type right);
        sides = λ i x y behind at. go i x y behind (one_more old.equations (a, b) i (x, y) at) left_stands right_stands (omega (arith, left.place_is.1, g.count)) right.place_is.1;
        has = λ _ _. record { place = length old.equations; left = a; right = b; is = last_at old.equations (a, b); left_stands = left_stands; right_stands = right_stands };
      })
    where
      go : (i x y : ℕ) → length old.equations ≤ i → (slice_get old.equations i ≡ Some (x, y)) ⊎ ((i ≡ length old.equations) × (◌≡◌ {A = ℕ × ℕ} (a, b) (x, y))) → Stands m rows nodes t a → Stands m rows nodes u b
          → a < length nodes → b < length nodes → AreSidesOf m rows nodes t u x y
      go i x y behind (inl there) left right left_within right_within = absurd (omega (arith, behind, slice_get_within old.equations i (x, y) there))
      go i x y behind (inr last) left right left_within right_within =
          let first : a ≡ x = ap (λ (e : ℕ × ℕ). e.0) last.1 in
          let second : b ≡ y = ap (λ (e : ℕ × ℕ). e.1) last.1 in
          record {
            left = subst (Stands m rows nodes t) first left;
            right = subst (Stands m rows nodes u) second right;
            left_within = omega (arith, first, left_within);
            right_within = omega (arith, second, right_within);
          }
