-- An End stands at the end of a program, and of a term that stands alone; and why the latter is refused.
use Rattle.std.proofs.Common.{◌≡◌, List, [], ◌∷◌, ◌++◌, length, true, inl, inr, refl, sym, ap, ◌∙◌, arith, subst, length-append}
use Rattle.std.specs.Prelude.{Result, Ok, Err, IfErr}
use Rattle.cq_lex.specs.declared.token.Token.{Token}
use Rattle.cq_lex.specs.declared.token.Kind.TheVariants as kinds
use Rattle.cq_rules.specs.declared.class.Class.TheVariants as classes
use Rattle.cq_rules.specs.declared.why.Why.{Why}
use Rattle.cq_rules.specs.declared.why.Why.TheVariants.{Wanted, LeftOut, Deep, BadOption}
use Rattle.cq_rules.specs.Class.{class_of, is, same, kind_class, Set}
use Rattle.cq_rules.specs.Refused.{RefusedAt}
use Rattle.cq_rules.specs.Rule.{Spells, Refuses, Before, seq, many}
use Rattle.cq_rules.proofs.Absent.{NoEnd, no_end}
use Rattle.cq_syntax.specs.declared.part.TermSyn.{TermSyn}
use Rattle.cq_syntax.specs.Grammar as grammar
use Rattle.cq_syntax.specs.Grammar.{name, text, spot, value, setting, options, placed_path, placed_term, group, constants, functions, edge, equation, path_equation, of_entity, observation, member, pair, bind, open_type, typeside, schema_literal, schema, colimit, key_image, att_value, att_image, map_block, mapping_literal, mapping, query_key, query_block, query_literal, query, instance_literal, coproduct, instance, transform_literal, move_form, transform, declaration, lone_term, program}
use Rattle.cq_parse.specs.declared.refusal.ParseRefusal.{ParseRefusal}
use Rattle.cq_parse.specs.declared.refusal.ParseRefusal.TheVariants as refusals
use Rattle.cq_parse.specs.Parsed.{EndsAtEnd, IsRefusedBy, IsTermRefused, RefusedBy, refusal_for}

-- tokens without an End, and one more
last_end : (us : List Token) (e : Token) (tail ws : List Token) (w : Token) → NoEnd ws → same (class_of e) classes.End ≡ true → us ++ e ∷ tail ≡ ws ++ w ∷ [] → tail ≡ []
last_end [] e tail [] w h k is = cc is
last_end [] e tail (x ∷ xs) w h k is =
    let one : e ≡ x = cc is in
    absurd (cc (subst (λ z. same (class_of z) classes.End ≡ true) one k, h.0))
last_end (u ∷ us) e tail [] w h k is =
    let none : us ++ e ∷ tail ≡ [] = cc is in
    absurd (omega (arith, ap length none, length-append us (e ∷ tail)))
last_end (u ∷ us) e tail (x ∷ xs) w h k is =
    let after : us ++ e ∷ tail ≡ xs ++ w ∷ [] = cc is in
    last_end us e tail xs w h.1 k after

before_end : {A : Type 0} (R : List Token → A → Type 0) (s : Set) (us : List Token) (e : Token) (tail : List Token) (a : A) → ((ts : List Token) (x : A) → R ts x → NoEnd ts) → e.kind ≡ kinds.End → Before R s (us ++ e ∷ tail) a → tail ≡ []
before_end R s us e tail a none is r =
    let b = r.1 in
    last_end us e tail b.0 b.4.0 (none b.0 r.0.0 b.3) (ap (λ z. same (kind_class z) classes.End) is) (b.2 ∙ ap (λ z. b.0 ++ z) b.4.1)

body_no_end : (us : List Token) (x : _) → Spells (seq options (many declaration)) us x → NoEnd us
unfolding name text spot value setting options placed_path placed_term group constants functions edge equation path_equation of_entity observation member pair bind open_type typeside schema_literal schema colimit key_image att_value att_image map_block mapping_literal mapping query_key query_block query_literal query instance_literal coproduct grammar.import instance transform_literal move_form transform declaration
body_no_end us x h = no_end (seq options (many declaration)) refl us x h

pub program_ends : EndsAtEnd program
unfolding program
program_ends front last tail tree at_end r =
    before_end (Spells (seq options (many declaration))) (is classes.End) front last tail r.0 body_no_end at_end r.1

term_no_end : (us : List Token) (x : TermSyn) → Spells placed_term us x → NoEnd us
unfolding placed_term
term_no_end us x h = no_end placed_term refl us x h

pub lone_term_ends : EndsAtEnd lone_term
unfolding lone_term
lone_term_ends front last tail tree at_end r = before_end (Spells placed_term) (is classes.End) front last tail tree term_no_end at_end r

-- why a token may be refused in a term that stands alone
abbrev OfTerm : Why → Type 0
OfTerm Wanted = Unit {0}
OfTerm (LeftOut n) = ⊥
OfTerm Deep = Unit {0}
OfTerm (BadOption p) = ⊥

in_term : (pre : List Token) (t : Token) (w : Why) → Refuses lone_term pre t w → OfTerm w
unfolding lone_term placed_term
in_term pre t Wanted h = tt
in_term pre t (LeftOut n) h =
    elim h [
      | inl d ↦ d
      | inr d ↦ elim d.5 [ inl k ↦ absurd (cc k.0.1) | inr k ↦ absurd (omega (arith, k.1)) ]
    ]
in_term pre t Deep h = tt
in_term pre t (BadOption p) h =
    elim h [
      | inl d ↦ d
      | inr d ↦ elim d.5 [ inl k ↦ absurd (cc k.0.1) | inr k ↦ absurd (cc k.2) ]
    ]

-- so only these refusals are told of it
abbrev TermOnly : ParseRefusal → Type 0
TermOnly refusals.Memory = Unit {0}
TermOnly (refusals.Syntax place) = Unit {0}
TermOnly (refusals.TooDeep place) = Unit {0}
TermOnly (refusals.Unsupported place number) = ⊥
TermOnly (refusals.BadOption place) = ⊥

term_only : (t : Token) (w : Why) → OfTerm w → TermOnly (refusal_for w t)
term_only t Wanted h = tt
term_only t (LeftOut n) h = h
term_only t Deep h = tt
term_only t (BadOption p) h = h

by_reason : (pre : List Token) (t : Token) (w : Why) → RefusedAt (Spells lone_term) (Refuses lone_term) pre t w → OfTerm w
by_reason pre t Wanted h = tt
by_reason pre t (LeftOut n) h = in_term pre t (LeftOut n) h.1
by_reason pre t Deep h = tt
by_reason pre t (BadOption p) h = in_term pre t (BadOption p) h.1

why_refused : (ts : List Token) (r : ParseRefusal) → RefusedBy lone_term ts r → TermOnly r
why_refused ts r h =
    subst TermOnly (sym h.refusal_is) (term_only h.token h.why (by_reason h.refused.front h.token h.why h.refused.why))

refused_term : (ts : List Token) (r : ParseRefusal) → IsRefusedBy lone_term ts r → IsTermRefused ts r
refused_term ts refusals.Memory h = tt
refused_term ts (refusals.Syntax place) h = h
refused_term ts (refusals.TooDeep place) h = h
refused_term ts (refusals.Unsupported place number) h = why_refused ts (refusals.Unsupported place number) h
refused_term ts (refusals.BadOption place) h = why_refused ts (refusals.BadOption place) h

pub term_refused : (ts : List Token) (r : Result TermSyn ParseRefusal) → IfErr r (IsRefusedBy lone_term ts) → IfErr r (IsTermRefused ts)
term_refused ts (Ok term) h = tt
term_refused ts (Err refusal) h = refused_term ts refusal h
