-- What a test of every class says.
use Rattle.std.proofs.Common.{◌≡◌, ℕ, zero, suc, List, [], ◌∷◌, Bool, true, false, refl}
use Rattle.std.specs.Prelude.{nat_eq}
use Rattle.std.specs.Cmp.{unsigned_Decides}
use Rattle.cq_rules.specs.declared.class.Class.{Class}
use Rattle.cq_rules.specs.declared.class.Class.TheVariants.{Typeside, Schema, Instance, Mapping, Transform, Query, SchemaColimit, Types, Literals, Constants, Functions, Entities, ForeignKeys, PathEquations, Attributes, ObservationEquations, Generators, Equations, EntityEquations, Entity, From, Where, Options, Forall, Lambda, ExternalTypes, ExternalParsers, ExternalFunctions, Imports, Literal, Delta, Sigma, Eval, Coeval, Coproduct, Pushout, ImportCsv, ImportCsv2, Identity, GetSchema, GetMapping, Quotient, Compose, OfMapping, Unit as UnitWord, Counit, UnitQuery, CounitQuery, Constraints, Command, Graph, Html, Md, Chase, Pi, Except, Distinct, Anonymize, Pivot, Coequalize, Colimit, Simple, Sql, Name, Text, LeftBrace, RightBrace, LeftParen, RightParen, LeftBracket, RightBracket, Colon, Semicolon, Comma, Dot, Equals, Plus, Arrow, End}
use Rattle.cq_rules.specs.Class.{Set, both, of_each, all_classes, every}
use Rattle.cq_rules.specs.Rule.{nand, not, Left, none_out}

pub left : (a b : Bool) → both a b ≡ true → a ≡ true
left true b e = refl
left false b e = e

pub right : (a b : Bool) → both a b ≡ true → b ≡ true
right true b e = e
right false b e = cc

abbrev nth : List Class → ℕ → Class
nth [] k = End
nth (c ∷ cs) zero = c
nth (c ∷ cs) (suc k) = nth cs k

abbrev Has : List Class → ℕ → Type 0
Has [] k = ⊥
Has (c ∷ cs) zero = Unit {0}
Has (c ∷ cs) (suc k) = Has cs k

each_at : (p : Class → Bool) (cs : List Class) → of_each p cs ≡ true → (k : ℕ) → Has cs k → p (nth cs k) ≡ true
each_at p [] e k h = absurd h
each_at p (c ∷ cs) e zero h = left (p c) (of_each p cs) e
each_at p (c ∷ cs) e (suc k) h = each_at p cs (right (p c) (of_each p cs) e) k h

pub every_holds : (p : Class → Bool) → every p ≡ true → (c : Class) → p c ≡ true
every_holds p e Typeside = each_at p all_classes e 0 tt
every_holds p e Schema = each_at p all_classes e 1 tt
every_holds p e Instance = each_at p all_classes e 2 tt
every_holds p e Mapping = each_at p all_classes e 3 tt
every_holds p e Transform = each_at p all_classes e 4 tt
every_holds p e Query = each_at p all_classes e 5 tt
every_holds p e SchemaColimit = each_at p all_classes e 6 tt
every_holds p e Types = each_at p all_classes e 7 tt
every_holds p e Literals = each_at p all_classes e 8 tt
every_holds p e Constants = each_at p all_classes e 9 tt
every_holds p e Functions = each_at p all_classes e 10 tt
every_holds p e Entities = each_at p all_classes e 11 tt
every_holds p e ForeignKeys = each_at p all_classes e 12 tt
every_holds p e PathEquations = each_at p all_classes e 13 tt
every_holds p e Attributes = each_at p all_classes e 14 tt
every_holds p e ObservationEquations = each_at p all_classes e 15 tt
every_holds p e Generators = each_at p all_classes e 16 tt
every_holds p e Equations = each_at p all_classes e 17 tt
every_holds p e EntityEquations = each_at p all_classes e 18 tt
every_holds p e Entity = each_at p all_classes e 19 tt
every_holds p e From = each_at p all_classes e 20 tt
every_holds p e Where = each_at p all_classes e 21 tt
every_holds p e Options = each_at p all_classes e 22 tt
every_holds p e Forall = each_at p all_classes e 23 tt
every_holds p e Lambda = each_at p all_classes e 24 tt
every_holds p e ExternalTypes = each_at p all_classes e 25 tt
every_holds p e ExternalParsers = each_at p all_classes e 26 tt
every_holds p e ExternalFunctions = each_at p all_classes e 27 tt
every_holds p e Imports = each_at p all_classes e 28 tt
every_holds p e Literal = each_at p all_classes e 29 tt
every_holds p e Delta = each_at p all_classes e 30 tt
every_holds p e Sigma = each_at p all_classes e 31 tt
every_holds p e Eval = each_at p all_classes e 32 tt
every_holds p e Coeval = each_at p all_classes e 33 tt
every_holds p e Coproduct = each_at p all_classes e 34 tt
every_holds p e Pushout = each_at p all_classes e 35 tt
every_holds p e ImportCsv = each_at p all_classes e 36 tt
every_holds p e ImportCsv2 = each_at p all_classes e 37 tt
every_holds p e Identity = each_at p all_classes e 38 tt
every_holds p e GetSchema = each_at p all_classes e 39 tt
every_holds p e GetMapping = each_at p all_classes e 40 tt
every_holds p e Quotient = each_at p all_classes e 41 tt
every_holds p e Compose = each_at p all_classes e 42 tt
every_holds p e OfMapping = each_at p all_classes e 43 tt
every_holds p e UnitWord = each_at p all_classes e 44 tt
every_holds p e Counit = each_at p all_classes e 45 tt
every_holds p e UnitQuery = each_at p all_classes e 46 tt
every_holds p e CounitQuery = each_at p all_classes e 47 tt
every_holds p e Constraints = each_at p all_classes e 48 tt
every_holds p e Command = each_at p all_classes e 49 tt
every_holds p e Graph = each_at p all_classes e 50 tt
every_holds p e Html = each_at p all_classes e 51 tt
every_holds p e Md = each_at p all_classes e 52 tt
every_holds p e Chase = each_at p all_classes e 53 tt
every_holds p e Pi = each_at p all_classes e 54 tt
every_holds p e Except = each_at p all_classes e 55 tt
every_holds p e Distinct = each_at p all_classes e 56 tt
every_holds p e Anonymize = each_at p all_classes e 57 tt
every_holds p e Pivot = each_at p all_classes e 58 tt
every_holds p e Coequalize = each_at p all_classes e 59 tt
every_holds p e Colimit = each_at p all_classes e 60 tt
every_holds p e Simple = each_at p all_classes e 61 tt
every_holds p e Sql = each_at p all_classes e 62 tt
every_holds p e Name = each_at p all_classes e 63 tt
every_holds p e Text = each_at p all_classes e 64 tt
every_holds p e LeftBrace = each_at p all_classes e 65 tt
every_holds p e RightBrace = each_at p all_classes e 66 tt
every_holds p e LeftParen = each_at p all_classes e 67 tt
every_holds p e RightParen = each_at p all_classes e 68 tt
every_holds p e LeftBracket = each_at p all_classes e 69 tt
every_holds p e RightBracket = each_at p all_classes e 70 tt
every_holds p e Colon = each_at p all_classes e 71 tt
every_holds p e Semicolon = each_at p all_classes e 72 tt
every_holds p e Comma = each_at p all_classes e 73 tt
every_holds p e Dot = each_at p all_classes e 74 tt
every_holds p e Equals = each_at p all_classes e 75 tt
every_holds p e Plus = each_at p all_classes e 76 tt
every_holds p e Arrow = each_at p all_classes e 77 tt
every_holds p e End = each_at p all_classes e 78 tt

nand_false : (a b : Bool) → nand a b ≡ true → a ≡ true → b ≡ false
nand_false true true e h = absurd (cc e)
nand_false true false e h = refl
nand_false false b e h = absurd (cc h)

-- no class is in both sets
pub apart_by : (s s' : Set) → every (λ c. nand (s' c) (s c)) ≡ true → (c : Class) → s' c ≡ true → s c ≡ false
apart_by s s' e c h = nand_false (s' c) (s c) (every_holds (λ c. nand (s' c) (s c)) e c) h

zero_at : (a c : Bool) (n : ℕ) → nat_eq n 0 ≡ c → nand a (not c) ≡ true → a ≡ true → n ≡ 0
zero_at a true n k e h = (unsigned_Decides n 0).0 k
zero_at true false n k e h = absurd (cc e)
zero_at false false n k e h = absurd (cc h)

-- no class of the set is left out
pub none_out_by : (l : Left) (s : Set) → none_out l s ≡ true → (c : Class) → s c ≡ true → l c ≡ 0
none_out_by l s e c h = zero_at (s c) (nat_eq (l c) 0) (l c) refl (every_holds (λ c. nand (s c) (not (nat_eq (l c) 0))) e c) h
