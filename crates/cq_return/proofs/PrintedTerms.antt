-- Terms as they are printed are spelled by tokens.
use Rattle.std.proofs.Common.{ℕ, Bool, true, false, List, [], ◌∷◌, ◌++◌, Option, Some, None, ◌≡◌, ◌<◌, ◌≤◌, inl, append_assoc, append-nil, map, length, refl, sym, ap, subst, ◌∙◌, arith}
use Rattle.std.specs.Prelude.{All, codes, fold, slice_get}
use Rattle.std.specs.List.{list_all}
use Rattle.std.proofs.lemmas.Bool.{and_parts}
use Rattle.std.proofs.lemmas.Option.{option_and_then_some, slice_get_within}
use Rattle.cq_base.specs.declared.name.Name.{Name}
use Rattle.cq_base.specs.declared.raw.Raw.{Raw}
use Rattle.cq_base.specs.declared.raw.Raw.TheVariants as raws
use Rattle.cq_lex.specs.declared.token.Mark.TheVariants as marks
use Rattle.cq_lex.specs.declared.token.Token.{Token}
use Rattle.cq_rules.specs.declared.class.Class.TheVariants as classes
use Rattle.cq_rules.specs.Class.{is, is_name}
use Rattle.cq_rules.specs.Outcome.{name_of, nothing_kept}
use Rattle.cq_rules.specs.Relations.{Both, One}
use Rattle.cq_rules.specs.Rule.{set}
use Rattle.cq_rules.specs.Tree.{Args, Term, Tree, Trees, Word, Text, App, more, end}
use Rattle.cq_syntax.specs.Terms.{raw_of, raws_of}
use Rattle.cq_theory.specs.declared.constant.Con.{Con}
use Rattle.cq_theory.specs.declared.presentation.Sort.{Sort}
use Rattle.cq_theory.specs.declared.schema.Edge.{Edge}
use Rattle.cq_theory.specs.declared.typeside.Fun.{Fun as Function}
use Rattle.cq_theory.specs.declared.term.EntTerm.{EntTerm}
use Rattle.cq_theory.specs.declared.term.TypeTerm.{TypeTerm}
use Rattle.cq_theory.specs.declared.term.TypeTerm.TheVariants as term
use Rattle.cq_theory.specs.SchemaData.{SchemaData as Schema}
use Rattle.cq_theory.specs.Sorts.{Generators, entity_at, entity_of, followed, have_types, is_type, target_of, type_at, type_of, type_step}
use Rattle.cq_theory.specs.ValueText.{after_commas, application_text, function_name, quoted, with_commas}
use Rattle.cq_theory.proofs.OnValues.{All_at}
use Rattle.cq_theory.proofs.Sound.{applied_type_some, followed_some, is_type_some}
use Rattle.cq_theory.proofs.TypeTerms.{Each, fold-Gen, fold-Const, fold-Att, fold-Fun, on_terms}
use Rattle.cq_values.specs.Readable.{is_name as is_content}
use Rattle.cq_text.specs.Literal.{applied_text, content_of, ent_text, generator_text, term_text, term_text_step}
use Rattle.cq_text.specs.Transcript.{edge_name}
use Rattle.cq_return.specs.WrittenTerms.{ArePlainNames, IsPlainName, entity_raw, has_contents, has_contents_step, raw_step, type_raw}
use Rattle.cq_return.proofs.Pieces.{generator_plain, mark_printed, name_printed, text_printed}
use Rattle.cq_return.proofs.Prints.{Any, Prints, Stop, before_blank, both, recast, same_bytes, weaker}

-- the tokens spell a term
abbrev pub IsTerm : List Token → Tree → Type 0
IsTerm ts v = Term v ts

abbrev pub AreArgs : List Token → Trees → Type 0
AreArgs ts vs = Args vs ts

-- the bytes are a term, as it is written
abbrev pub PrintsTerm : Raw → List ℕ → Type 0
PrintsTerm raw bytes = Prints Stop IsTerm (λ v. raw_of v ≡ raw) bytes

pub word_printed : (name : List ℕ) → IsPlainName name → PrintsTerm (raws.Word name) name
word_printed name plain =
    recast Stop (One name_of (set is_name)) (λ n. n ≡ name) IsTerm (λ v. raw_of v ≡ raws.Word name) Word name (λ ts a spelled same. (spelled, ap raws.Word same))
    (name_printed name_of (λ n. n ≡ name) name plain (λ before. refl))

pub content_printed : (content : List ℕ) → is_content content ≡ true → PrintsTerm (raws.Text content) (quoted content)
content_printed content fits =
    weaker Stop IsTerm (λ v. raw_of v ≡ raws.Text content) (quoted content)
    (recast Any (One name_of (set (is classes.Text))) (λ n. n ≡ content) IsTerm (λ v. raw_of v ≡ raws.Text content) Text (quoted content) (λ ts a spelled same. (spelled, ap raws.Text same))
    (text_printed name_of (λ n. n ≡ content) content fits (λ before bytes. refl)))

-- a name applied to what stands in brackets
abbrev Brackets : List Token → (List ℕ × (Unit {0} × (Trees × Unit {0}))) → Type 0
Brackets = Both (One name_of (set is_name)) (Both (One nothing_kept (set (is classes.LeftParen))) (Both AreArgs (One nothing_kept (set (is classes.RightParen)))))

bracketed : (ts : List Token) (a : List ℕ × (Unit {0} × (Trees × Unit {0}))) → Brackets ts a → IsTerm ts (App a.0 a.1.1.0)
bracketed ts a (us1, vs1, e, (t, e1, is_one, same), (us2, vs2, e2, (o, e3, opens, u), (us3, vs3, e4, args, (c, e5, closes, w)))) =
    inl (t, o, us3, c, e ∙ (λ j. e1 j ++ (e2 ∙ (λ k. e3 k ++ (e4 ∙ (λ l. us3 ++ e5 l)) k)) j), is_one, same, opens, args, closes)

pub applied_printed : (name : List ℕ) (given : List Raw) (bytes : List ℕ) → IsPlainName name → Prints Stop AreArgs (λ vs. raws_of vs ≡ given) bytes
    → PrintsTerm (raws.App name given) (((name ++ codes "(") ++ bytes) ++ codes ")")
applied_printed name given bytes plain args =
    let OfName : List ℕ → Type 0 = λ n. n ≡ name in
    same_bytes Stop IsTerm (λ v. raw_of v ≡ raws.App name given) (name ++ (codes "(" ++ (bytes ++ codes ")"))) (((name ++ codes "(") ++ bytes) ++ codes ")")
    (regrouped name (codes "(") bytes (codes ")"))
    (recast Stop Brackets (λ p. (p.0 ≡ name) × (Unit {0} × ((raws_of p.1.1.0 ≡ given) × Unit {0}))) IsTerm (λ v. raw_of v ≡ raws.App name given) (λ p. App p.0 p.1.1.0) (name ++ (codes "(" ++ (bytes ++ codes ")")))
    (λ ts p spelled meets. (bracketed ts p spelled, (λ j. raws.App (meets.0 j) (meets.1.1.0 j))))
    (both Stop Stop (One name_of (set is_name)) (λ n. n ≡ name) (Both (One nothing_kept (set (is classes.LeftParen))) (Both AreArgs (One nothing_kept (set (is classes.RightParen)))))
    (λ p. Unit {0} × ((raws_of p.1.0 ≡ given) × Unit {0})) name (codes "(" ++ (bytes ++ codes ")")) (λ after stops. refl)
    (name_printed name_of (λ n. n ≡ name) name plain (λ before. refl))
    (both Any Stop (One nothing_kept (set (is classes.LeftParen))) (λ u. Unit {0}) (Both AreArgs (One nothing_kept (set (is classes.RightParen)))) (λ p. (raws_of p.0 ≡ given) × Unit {0})
    (codes "(") (bytes ++ codes ")") (λ after stops. tt)
    (mark_printed classes.LeftParen marks.LeftParen refl)
    (both Stop Stop AreArgs (λ vs. raws_of vs ≡ given) (One nothing_kept (set (is classes.RightParen))) (λ u. Unit {0}) bytes (codes ")") (λ after stops. refl) args
    (weaker Stop (One nothing_kept (set (is classes.RightParen))) (λ u. Unit {0}) (codes ")") (mark_printed classes.RightParen marks.RightParen refl))))))
  where
    regrouped : (n l b r : List ℕ) → n ++ (l ++ (b ++ r)) ≡ ((n ++ l) ++ b) ++ r
    regrouped n l b r = sym (append_assoc (n ++ l) b r ∙ append_assoc n l (b ++ r))

-- one argument
pub alone_printed : (raw : Raw) (bytes : List ℕ) → PrintsTerm raw bytes → Prints Stop AreArgs (λ vs. raws_of vs ≡ raw ∷ []) bytes
alone_printed raw bytes prints =
    recast Stop IsTerm (λ v. raw_of v ≡ raw) AreArgs (λ vs. raws_of vs ≡ raw ∷ []) (λ v. more v end) bytes (λ ts v spelled same. (spelled, ap (λ r. r ∷ []) same)) prints

-- one more argument before others
abbrev Behind : List Token → (Tree × (Unit {0} × Trees)) → Type 0
Behind = Both IsTerm (Both (One nothing_kept (set (is classes.Comma))) AreArgs)

joined : (ts : List Token) (v : Tree) (u : Unit {0}) (ws : Trees) → Behind ts (v, (u, ws)) → AreArgs ts (more v ws)
joined ts v u end (us, vs, e, is_term, (us2, vs2, e2, comma, args)) = absurd args
joined ts v u (more w ws) (us, vs, e, is_term, (us2, vs2, e2, (c, e3, is_comma, same), args)) =
    (us, c, vs2, e ∙ (λ j. us ++ (e2 ∙ (λ k. e3 k ++ vs2)) j), is_term, is_comma, args)

pub more_printed : (raw : Raw) (given : List Raw) (first rest : List ℕ) → PrintsTerm raw first → Prints Stop AreArgs (λ vs. raws_of vs ≡ given) rest
    → Prints Stop AreArgs (λ vs. raws_of vs ≡ raw ∷ given) (first ++ (codes ", " ++ rest))
more_printed raw given first rest one others =
    recast Stop Behind (λ p. (raw_of p.0 ≡ raw) × (Unit {0} × (raws_of p.1.1 ≡ given))) AreArgs (λ vs. raws_of vs ≡ raw ∷ given) (λ p. more p.0 p.1.1) (first ++ (codes ", " ++ rest))
    (λ ts p spelled meets. (joined ts p.0 p.1.0 p.1.1 spelled, (λ j. meets.0 j ∷ meets.1.1 j)))
    (both Stop Stop IsTerm (λ v. raw_of v ≡ raw) (Both (One nothing_kept (set (is classes.Comma))) AreArgs) (λ p. Unit {0} × (raws_of p.1 ≡ given)) first (codes ", " ++ rest) (λ after stops. refl) one
    (both Any Stop (One nothing_kept (set (is classes.Comma))) (λ u. Unit {0}) AreArgs (λ vs. raws_of vs ≡ given) (codes ", ") rest (λ after stops. tt)
    (before_blank (One nothing_kept (set (is classes.Comma))) (λ u. Unit {0}) 32 (codes ",") refl refl
    (weaker Stop (One nothing_kept (set (is classes.Comma))) (λ u. Unit {0}) (codes ",") (mark_printed classes.Comma marks.Comma refl)))
    others))

-- Terms of a presentation, over a schema whose names are plain.
module _ (S : Schema) (plain : ArePlainNames S) (G : Generators) (few : length G ≤ 16000000) where
  generator_printed : (n : ℕ) (g : Name × Sort) → slice_get G n ≡ Some g → PrintsTerm (raws.Word (generator_text n)) (generator_text n)
  generator_printed n g at = let within = slice_get_within G n g at in word_printed (generator_text n) (generator_plain n (omega arith))

  edge_plain : (edges : List Edge) → All (λ (e : Edge). IsPlainName e.name) edges → (k e target : ℕ) → followed (slice_get edges k) e ≡ Some target → IsPlainName (edge_name (slice_get edges k))
  edge_plain edges all k e target leads =
      let edge = followed_some (slice_get edges k) e target leads in
      subst IsPlainName (sym (ap edge_name edge.1)) (All_at (λ (x : Edge). IsPlainName x.name) edges k edge.0 all edge.1)

  path_printed : (raw : Raw) (shown : List ℕ) (path : List ℕ) (e target : ℕ) → PrintsTerm raw shown → target_of S.keys path e ≡ Some target
      → PrintsTerm (fold (λ r k. raws.App (edge_name (slice_get S.keys k)) (r ∷ [])) raw path) (fold (λ t k. applied_text (edge_name (slice_get S.keys k)) t) shown path)
  path_printed raw shown [] e target prints leads = prints
  path_printed raw shown (k ∷ path) e target prints leads =
      option_and_then_some (target_of S.keys path) (followed (slice_get S.keys k) e) target leads (λ middle first rest.
      path_printed (raws.App (edge_name (slice_get S.keys k)) (raw ∷ [])) (applied_text (edge_name (slice_get S.keys k)) shown) path middle target
      (applied_printed (edge_name (slice_get S.keys k)) (raw ∷ []) shown (edge_plain S.keys plain.keys k e middle first) (alone_printed raw shown prints)) rest)

  some_generator : (o : Option (Name × Sort)) (e : ℕ) → entity_at o ≡ Some e → (g : Name × Sort) × (o ≡ Some g)
  some_generator None e h = cc
  some_generator (Some g) e h = (g, refl)

  some_type : (o : Option (Name × Sort)) (type : ℕ) → type_at o ≡ Some type → (g : Name × Sort) × (o ≡ Some g)
  some_type None type h = cc
  some_type (Some g) type h = (g, refl)

  pub entity_printed : (t : EntTerm) (e : ℕ) → entity_of S G t ≡ Some e → PrintsTerm (entity_raw S t) (ent_text S t)
  entity_printed t e of_entity =
      option_and_then_some (target_of S.keys t.path) (entity_at (slice_get G t.generator)) e of_entity (λ start first rest.
      let at = some_generator (slice_get G t.generator) start first in
      path_printed (raws.Word (generator_text t.generator)) (generator_text t.generator) t.path start e (generator_printed t.generator at.0 at.1) rest)

  abbrev IsPrintedTerm : TypeTerm → Type 0
  IsPrintedTerm t = (type : ℕ) → type_of S G t ≡ Some type → has_contents S t ≡ true → PrintsTerm (type_raw S t) (term_text S t)

  on_generator : (n : ℕ) → IsPrintedTerm (term.Gen n)
  on_generator n type typed fits =
      let at = some_type (slice_get G n) type (sym (fold-Gen (Option ℕ) (type_step S G) n) ∙ typed) in
      subst (λ b. PrintsTerm (type_raw S (term.Gen n)) b) (sym (fold-Gen (List ℕ) (term_text_step S) n))
      (subst (λ r. PrintsTerm r (generator_text n)) (sym (fold-Gen Raw (raw_step S) n)) (generator_printed n at.0 at.1))

  on_constant : (c : Con) → IsPrintedTerm (term.Const c)
  on_constant c type typed fits =
      subst (λ b. PrintsTerm (type_raw S (term.Const c)) b) (sym (fold-Const (List ℕ) (term_text_step S) c))
      (subst (λ r. PrintsTerm r (quoted (content_of S.typeside c))) (sym (fold-Const Raw (raw_step S) c))
      (content_printed (content_of S.typeside c) (sym (fold-Const Bool (has_contents_step S) c) ∙ fits)))

  on_attribute : (a : ℕ) (t : EntTerm) → IsPrintedTerm (term.Att a t)
  on_attribute a t type typed fits =
      option_and_then_some (followed (slice_get S.attributes a)) (entity_of S G t) type (sym (fold-Att (Option ℕ) (type_step S G) a t) ∙ typed) (λ e first leads.
      subst (λ b. PrintsTerm (type_raw S (term.Att a t)) b) (sym (fold-Att (List ℕ) (term_text_step S) a t))
      (subst (λ r. PrintsTerm r (applied_text (edge_name (slice_get S.attributes a)) (ent_text S t))) (sym (fold-Att Raw (raw_step S) a t))
      (applied_printed (edge_name (slice_get S.attributes a)) (entity_raw S t ∷ []) (ent_text S t) (edge_plain S.attributes plain.attributes a e type leads)
      (alone_printed (entity_raw S t) (ent_text S t) (entity_printed t e first)))))

  args_printed : (t : TypeTerm) (ts : List TypeTerm) (type : ℕ) (types : List ℕ) → IsPrintedTerm t → Each IsPrintedTerm ts
      → have_types (map (type_of S G) (t ∷ ts)) (type ∷ types) ≡ true → list_all (λ b. b) (map (has_contents S) (t ∷ ts)) ≡ true
      → Prints Stop AreArgs (λ vs. raws_of vs ≡ map (type_raw S) (t ∷ ts)) (with_commas (map (term_text S) (t ∷ ts)))
  args_printed t [] type types one each typed fits =
      let parts = and_parts (is_type (type_of S G t) type) (have_types [] types) typed in
      let contents = and_parts (has_contents S t) true fits in
      same_bytes Stop AreArgs (λ vs. raws_of vs ≡ type_raw S t ∷ []) (term_text S t) (term_text S t ++ []) (sym (append-nil (term_text S t)))
      (alone_printed (type_raw S t) (term_text S t) (one type (is_type_some _ _ parts.0) contents.0))
  args_printed t (u ∷ us) type [] one each typed fits =
      let parts = and_parts (is_type (type_of S G t) type) false typed in
      cc (sym parts.1)
  args_printed t (u ∷ us) type (next ∷ types) one each typed fits =
      let parts = and_parts (is_type (type_of S G t) type) (have_types (map (type_of S G) (u ∷ us)) (next ∷ types)) typed in
      let contents = and_parts (has_contents S t) (list_all (λ b. b) (map (has_contents S) (u ∷ us))) fits in
      let texts = map (term_text S) us in
      same_bytes Stop AreArgs (λ vs. raws_of vs ≡ map (type_raw S) (t ∷ u ∷ us)) (term_text S t ++ (codes ", " ++ with_commas (map (term_text S) (u ∷ us)))) (with_commas (map (term_text S) (t ∷ u ∷ us)))
      (ap (λ l. term_text S t ++ l) (sym (append_assoc (codes ", ") (term_text S u) (after_commas texts))))
      (more_printed (type_raw S t) (map (type_raw S) (u ∷ us)) (term_text S t) (with_commas (map (term_text S) (u ∷ us))) (one type (is_type_some _ _ parts.0) contents.0)
      (args_printed u us next types each.0 each.1 parts.1 contents.1))

  some_args : (f : ℕ) (function : Function) (ts : List TypeTerm) → slice_get S.typeside.functions f ≡ Some function → Each IsPrintedTerm ts → have_types (map (type_of S G) ts) function.args ≡ true
      → list_all (λ b. b) (map (has_contents S) ts) ≡ true → Prints Stop AreArgs (λ vs. raws_of vs ≡ map (type_raw S) ts) (with_commas (map (term_text S) ts))
  some_args f function [] at each typed fits =
      let some = (All_at (λ (g : Function). IsPlainName g.name × (0 < length g.args)) S.typeside.functions f function plain.functions at).1 in
      absurd (no_args function.args typed some)
    where
      no_args : (types : List ℕ) → have_types [] types ≡ true → 0 < length types → ⊥
      no_args [] h some = omega (arith, some)
      no_args (type ∷ types) h some = cc h
  some_args f function (t ∷ ts) at each typed fits = at_types function.args typed
    where
      at_types : (types : List ℕ) → have_types (map (type_of S G) (t ∷ ts)) types ≡ true → Prints Stop AreArgs (λ vs. raws_of vs ≡ map (type_raw S) (t ∷ ts)) (with_commas (map (term_text S) (t ∷ ts)))
      at_types [] h = cc h
      at_types (type ∷ types) h = args_printed t ts type types each.0 each.1 h fits

  on_function : (f : ℕ) (ts : List TypeTerm) → Each IsPrintedTerm ts → IsPrintedTerm (term.Fun f ts)
  on_function f ts each type typed fits =
      let parts = applied_type_some (slice_get S.typeside.functions f) (map (type_of S G) ts) type (sym (fold-Fun (Option ℕ) (type_step S G) f ts) ∙ typed) in
      let name = function_name (slice_get S.typeside.functions f) in
      let known = All_at (λ (g : Function). IsPlainName g.name × (0 < length g.args)) S.typeside.functions f parts.0 plain.functions parts.1 in
      let contents = sym (fold-Fun Bool (has_contents_step S) f ts) ∙ fits in
      subst (λ b. PrintsTerm (type_raw S (term.Fun f ts)) b) (sym (fold-Fun (List ℕ) (term_text_step S) f ts))
      (subst (λ r. PrintsTerm r (application_text name (map (term_text S) ts))) (sym (fold-Fun Raw (raw_step S) f ts))
      (applied_printed name (map (type_raw S) ts) (with_commas (map (term_text S) ts)) (subst IsPlainName (sym (ap function_name parts.1)) known.0)
      (some_args f parts.0 ts parts.1 each parts.2 contents)))

  pub type_printed : (t : TypeTerm) → IsPrintedTerm t
  type_printed = on_terms IsPrintedTerm on_generator on_constant on_attribute on_function
