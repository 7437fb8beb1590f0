-- The literal of a presentation is one declaration.
use Rattle.std.proofs.Common.{ℕ, List, [], ◌++◌, ◌≡◌, inl, inr, refl, arith}
use Rattle.std.specs.Prelude.{codes}
use Rattle.cq_base.specs.declared.name.Name.{Name}
use Rattle.cq_lex.specs.declared.token.Mark.TheVariants as marks
use Rattle.cq_lex.specs.declared.token.Token.{Token}
use Rattle.cq_rules.specs.declared.class.Class.{Class}
use Rattle.cq_rules.specs.declared.class.Class.TheVariants as classes
use Rattle.cq_rules.specs.Class.{is, is_name, word_class}
use Rattle.cq_rules.specs.Outcome.{nothing_kept}
use Rattle.cq_rules.specs.Relations.{Both, Each, None, One, Placed}
use Rattle.cq_rules.specs.Rule.{Before, Behind, OrEmpty, Spells, first_of, set}
use Rattle.cq_syntax.specs.Expressions as exps
use Rattle.cq_syntax.specs.Grammar.{declaration, equation, group, instance, instance_literal, options, spot, spot_of}
use Rattle.cq_syntax.specs.Parts as parts
use Rattle.cq_syntax.specs.declared.literal.InstanceLit.{InstanceLit}
use Rattle.cq_syntax.specs.declared.part.EqSyn.{EqSyn}
use Rattle.cq_syntax.specs.declared.part.GroupSyn.{GroupSyn}
use Rattle.cq_syntax.specs.declared.part.Opt.{Opt}
use Rattle.cq_syntax.specs.declared.part.Spot.{Spot}
use Rattle.cq_syntax.specs.declared.program.Body.TheVariants.{Instance}
use Rattle.cq_syntax.specs.declared.program.Decl.{Decl}
use Rattle.cq_syntax.specs.declared.program.InstanceExp.{InstanceExp}
use Rattle.cq_syntax.specs.declared.program.InstanceExp.TheVariants.{Literal}
use Rattle.cq_return.specs.WrittenTerms.{IsPlainName}
use Rattle.cq_return.proofs.Lines.{colon_printed, equals_printed, skipped, spot_printed}
use Rattle.cq_return.proofs.Pieces.{keyword_printed, mark_printed}
use Rattle.cq_return.proofs.Prints.{Any, Prints, Stop, before_blank, behind_blank, both, made, nothing, placed, recast, weaker}

-- a word of the language, and a blank behind it
word_blank : (c : Class) (word : List ℕ) → Prints Stop (One nothing_kept (set (is c))) (λ u. Unit {0}) word → Prints Any (One nothing_kept (set (is c))) (λ u. Unit {0}) (word ++ codes " ")
word_blank c word prints = before_blank (One nothing_kept (set (is c))) (λ u. Unit {0}) 32 word refl refl prints

word_line : (c : Class) (word : List ℕ) → Prints Stop (One nothing_kept (set (is c))) (λ u. Unit {0}) word → Prints Any (One nothing_kept (set (is c))) (λ u. Unit {0}) (word ++ codes "\n")
word_line c word prints = before_blank (One nothing_kept (set (is c))) (λ u. Unit {0}) 10 word refl refl prints

instance_word : Prints Stop (One nothing_kept (set (is classes.Instance))) (λ u. Unit {0}) (codes "instance")
unfolding word_class
instance_word = keyword_printed classes.Instance (codes "instance") refl refl (omega arith) (omega arith)

literal_word : Prints Stop (One nothing_kept (set (is classes.Literal))) (λ u. Unit {0}) (codes "literal")
unfolding word_class
literal_word = keyword_printed classes.Literal (codes "literal") refl refl (omega arith) (omega arith)

generators_word : Prints Stop (One nothing_kept (set (is classes.Generators))) (λ u. Unit {0}) (codes "generators")
unfolding word_class
generators_word = keyword_printed classes.Generators (codes "generators") refl refl (omega arith) (omega arith)

equations_word : Prints Stop (One nothing_kept (set (is classes.Equations))) (λ u. Unit {0}) (codes "equations")
unfolding word_class
equations_word = keyword_printed classes.Equations (codes "equations") refl refl (omega arith) (omega arith)

opening : Prints Any (One nothing_kept (set (is classes.LeftBrace))) (λ u. Unit {0}) (codes " {\n")
opening =
    behind_blank Any (One nothing_kept (set (is classes.LeftBrace))) (λ u. Unit {0}) 32 (codes "{\n") refl
    (before_blank (One nothing_kept (set (is classes.LeftBrace))) (λ u. Unit {0}) 10 (codes "{") refl refl
    (weaker Stop (One nothing_kept (set (is classes.LeftBrace))) (λ u. Unit {0}) (codes "{") (mark_printed classes.LeftBrace marks.LeftBrace refl)))

closing : Prints Any (One nothing_kept (set (is classes.RightBrace))) (λ u. Unit {0}) (codes "}\n")
closing =
    before_blank (One nothing_kept (set (is classes.RightBrace))) (λ u. Unit {0}) 10 (codes "}") refl refl
    (weaker Stop (One nothing_kept (set (is classes.RightBrace))) (λ u. Unit {0}) (codes "}") (mark_printed classes.RightBrace marks.RightBrace refl))

-- a section with its word
section_printed : {A : Type 0} (c : Class) (P : List Token → A → Type 0) (Q : List A → Type 0) (word bytes : List ℕ) → Prints Any (One nothing_kept (set (is c))) (λ u. Unit {0}) word
    → Prints Any (Each P) Q bytes → Prints Any (OrEmpty (Behind (is c) (Each P))) Q (word ++ bytes)
section_printed c P Q word bytes first rest =
    recast Any (Behind (is c) (Each P)) Q (OrEmpty (Behind (is c) (Each P))) Q (λ xs. xs) (word ++ bytes) (λ ts xs spelled meets. ((inl xs, spelled, refl), meets))
    (skipped Any Any (set (is c)) (Each P) Q word bytes (λ after stops. tt) first rest)

-- no options
no_options : Prints Any (Spells options) (λ xs. xs ≡ []) []
unfolding options
no_options =
    let none : List Opt = [] in
    recast {A = Unit {0}} {C = List Opt} Any (None (tt {0})) (λ u. Unit {0}) (Spells options) (λ xs. xs ≡ none) (λ u. none) []
    (λ ts u spelled meets. ((inr (tt {0}), (spelled.0, refl), refl), refl)) (nothing (tt {0}) (λ u. Unit {0}) tt)

module _ (name_is schema_is : Name) (plain : IsPlainName name_is) (plain_schema : IsPlainName schema_is)
    (QG : List GroupSyn → Type 0) (QE : List EqSyn → Type 0) (gs es : List ℕ)
    (generators : Prints Any (Each (Spells group)) QG gs) (equations : Prints Any (Each (Spells equation)) QE es) where
  abbrev Inner : List Token → List GroupSyn × (List EqSyn × List Opt) → Type 0
  Inner = Both (OrEmpty (Behind (is classes.Generators) (Each (Spells group)))) (Both (OrEmpty (Behind (is classes.Equations) (Each (Spells equation)))) (Spells options))

  abbrev MeetsInner : List GroupSyn × (List EqSyn × List Opt) → Type 0
  MeetsInner p = QG p.0 × (QE p.1.0 × (p.1.1 ≡ []))

  sections : Prints Any Inner MeetsInner ((codes "generators\n" ++ gs) ++ ((codes "equations\n" ++ es) ++ []))
  sections =
      both Any Any (OrEmpty (Behind (is classes.Generators) (Each (Spells group)))) QG (Both (OrEmpty (Behind (is classes.Equations) (Each (Spells equation)))) (Spells options))
      (λ p. QE p.0 × (p.1 ≡ [])) (codes "generators\n" ++ gs) ((codes "equations\n" ++ es) ++ []) (λ after stops. tt)
      (section_printed classes.Generators (Spells group) QG (codes "generators\n") gs (word_line classes.Generators (codes "generators") generators_word) generators)
      (both Any Any (OrEmpty (Behind (is classes.Equations) (Each (Spells equation)))) QE (Spells options) (λ xs. xs ≡ []) (codes "equations\n" ++ es) [] (λ after stops. tt)
      (section_printed classes.Equations (Spells equation) QE (codes "equations\n") es (word_line classes.Equations (codes "equations") equations_word) equations)
      no_options)

  abbrev inner_text : List ℕ
  inner_text = (codes "generators\n" ++ gs) ++ ((codes "equations\n" ++ es) ++ [])

  closed : Prints Any (Before Inner (is classes.RightBrace)) MeetsInner (((codes "generators\n" ++ gs) ++ ((codes "equations\n" ++ es) ++ [])) ++ codes "}\n")
  closed =
      made Any (Both Inner (One nothing_kept (set (is classes.RightBrace)))) (λ p. MeetsInner p.0 × Unit {0}) MeetsInner first_of (inner_text ++ codes "}\n") (λ p meets. meets.0)
      (both Any Any Inner MeetsInner (One nothing_kept (set (is classes.RightBrace))) (λ u. Unit {0}) inner_text (codes "}\n") (λ after stops. tt) sections closing)

  abbrev body_text : List ℕ
  body_text = codes " {\n" ++ (((codes "generators\n" ++ gs) ++ ((codes "equations\n" ++ es) ++ [])) ++ codes "}\n")

  braced : Prints Any (Behind (is classes.LeftBrace) (Before Inner (is classes.RightBrace))) MeetsInner (codes " {\n" ++ (((codes "generators\n" ++ gs) ++ ((codes "equations\n" ++ es) ++ [])) ++ codes "}\n"))
  braced = skipped Any Any (set (is classes.LeftBrace)) (Before Inner (is classes.RightBrace)) MeetsInner (codes " {\n") (inner_text ++ codes "}\n") (λ after stops. tt) opening closed

  abbrev MeetsLit : InstanceLit → Type 0
  MeetsLit lit = (lit.schema.name ≡ schema_is) × (QG lit.generators × (QE lit.equations × (lit.options ≡ [])))

  abbrev literal_text : List ℕ
  literal_text = codes "literal" ++ (codes " : " ++ (schema_is ++ (codes " {\n" ++ (((codes "generators\n" ++ gs) ++ ((codes "equations\n" ++ es) ++ [])) ++ codes "}\n"))))

  literal_printed : Prints Any (Spells instance_literal) MeetsLit
      (codes "literal" ++ (codes " : " ++ (schema_is ++ (codes " {\n" ++ (((codes "generators\n" ++ gs) ++ ((codes "equations\n" ++ es) ++ [])) ++ codes "}\n")))))
  unfolding instance_literal spot
  literal_printed =
      made Any (Behind (is classes.Literal) (Behind (is classes.Colon) (Both (One spot_of (set is_name)) (Behind (is classes.LeftBrace) (Before Inner (is classes.RightBrace))))))
      (λ p. (p.0.name ≡ schema_is) × MeetsInner p.1) MeetsLit parts.instance_of literal_text (λ p meets. meets)
      (skipped Stop Any (set (is classes.Literal)) (Behind (is classes.Colon) (Both (One spot_of (set is_name)) (Behind (is classes.LeftBrace) (Before Inner (is classes.RightBrace)))))
      (λ p. (p.0.name ≡ schema_is) × MeetsInner p.1) (codes "literal") (codes " : " ++ (schema_is ++ body_text)) (λ after stops. refl) literal_word
      (skipped Any Any (set (is classes.Colon)) (Both (One spot_of (set is_name)) (Behind (is classes.LeftBrace) (Before Inner (is classes.RightBrace))))
      (λ p. (p.0.name ≡ schema_is) × MeetsInner p.1) (codes " : ") (schema_is ++ body_text) (λ after stops. tt) colon_printed
      (both Stop Any (One spot_of (set is_name)) (λ s. s.name ≡ schema_is) (Behind (is classes.LeftBrace) (Before Inner (is classes.RightBrace))) MeetsInner schema_is body_text (λ after stops. refl)
      (spot_printed schema_is plain_schema) braced)))

  -- the value is a literal that meets the claims
  pub record IsLiteral (exp : InstanceExp) : Type 0 where
    pub literal : InstanceLit
    pub is_literal : exp ≡ Literal literal
    pub meets : MeetsLit literal

  instance_printed : Prints Any (Spells instance) IsLiteral
      (codes "literal" ++ (codes " : " ++ (schema_is ++ (codes " {\n" ++ (((codes "generators\n" ++ gs) ++ ((codes "equations\n" ++ es) ++ [])) ++ codes "}\n")))))
  unfolding instance
  instance_printed =
      recast Any (Spells instance_literal) MeetsLit (Spells instance) IsLiteral Literal literal_text
      (λ ts lit spelled meets. ((inl lit, spelled, refl), record { literal = lit; is_literal = refl; meets = meets })) literal_printed

  pub record IsDecl (d : Decl) : Type 0 where
    pub exp : InstanceExp
    pub named : d.name ≡ name_is
    pub body : d.body ≡ Instance exp
    pub literal : IsLiteral exp

  -- the whole text
  abbrev pub text : List ℕ
  text = codes "instance " ++ (name_is ++ (codes " = " ++ (codes "literal" ++ (codes " : " ++ (schema_is ++ (codes " {\n" ++ (((codes "generators\n" ++ gs) ++ ((codes "equations\n" ++ es) ++ [])) ++ codes "}\n")))))))

  abbrev Kind : List Token → Spot × InstanceExp → Type 0
  Kind = Behind (is classes.Instance) (Both (One spot_of (set is_name)) (Behind (is classes.Equals) (Spells instance)))

  kind_printed : Prints Any Kind (λ p. (p.0.name ≡ name_is) × IsLiteral p.1)
      (codes "instance " ++ (name_is ++ (codes " = " ++ (codes "literal" ++ (codes " : " ++ (schema_is ++ (codes " {\n" ++ (((codes "generators\n" ++ gs) ++ ((codes "equations\n" ++ es) ++ [])) ++ codes "}\n"))))))))
  kind_printed =
      skipped Any Any (set (is classes.Instance)) (Both (One spot_of (set is_name)) (Behind (is classes.Equals) (Spells instance))) (λ p. (p.0.name ≡ name_is) × IsLiteral p.1)
      (codes "instance ") (name_is ++ (codes " = " ++ literal_text)) (λ after stops. tt) (word_blank classes.Instance (codes "instance") instance_word)
      (both Stop Any (One spot_of (set is_name)) (λ s. s.name ≡ name_is) (Behind (is classes.Equals) (Spells instance)) IsLiteral name_is (codes " = " ++ literal_text) (λ after stops. refl)
      (spot_printed name_is plain)
      (skipped Any Any (set (is classes.Equals)) (Spells instance) IsLiteral (codes " = ") literal_text (λ after stops. tt) equals_printed instance_printed))

  pub declaration_printed : Prints Any (Spells declaration) IsDecl
      (codes "instance " ++ (name_is ++ (codes " = " ++ (codes "literal" ++ (codes " : " ++ (schema_is ++ (codes " {\n" ++ (((codes "generators\n" ++ gs) ++ ((codes "equations\n" ++ es) ++ [])) ++ codes "}\n"))))))))
  unfolding declaration spot
  declaration_printed =
      recast Any (Placed Kind) (λ p. (p.1.0.name ≡ name_is) × IsLiteral p.1.1) (Spells declaration) IsDecl (λ p. exps.decl_of (p.0, inr (inr (inr (inr (inr (inl p.1))))))) text
      (λ ts p spelled meets. (((p.0, inr (inr (inr (inr (inr (inl p.1)))))), (spelled.0, spelled.1), refl), record { exp = p.1.1; named = meets.0; body = refl; literal = meets.1 }))
      (placed Any Kind (λ p. (p.0.name ≡ name_is) × IsLiteral p.1) text kind_printed)
