-- The transcript and the literal of an instance of employees and departments, written out.
use Rattle.std.proofs.Common.{false, [], ◌∷◌, ◌≡◌, refl}
use Rattle.std.specs.Prelude.{codes, None, Some}
use Rattle.std.specs.Fmt.{digits}
use Rattle.cq_theory.specs.declared.constant.Con.TheVariants.{Named, Open}
use Rattle.cq_theory.specs.declared.presentation.Sort.TheVariants.{Entity}
use Rattle.cq_theory.specs.declared.value.Value.TheVariants.{Const, Null, Fun}
use Rattle.cq_theory.specs.TypesideData.{TypesideData}
use Rattle.cq_theory.specs.SchemaData.{SchemaData}
use Rattle.cq_theory.proofs.Values.{fold-Const, fold-Null, fold-Fun}
use Rattle.cq_theory.proofs.TypeTerms as terms
use Rattle.cq_theory.specs.Tables.{AtRow}
use Rattle.cq_instance.specs.InstanceData.{InstanceData}
use Rattle.cq_text.specs.Literal.{literal_of}
use Rattle.cq_text.specs.Transcript.{transcript_of, name_text}

abbrev pub typeside : TypesideData
typeside = record {
  types = codes "string" ∷ codes "nat" ∷ [];
  constants = (codes "Al", 0) ∷ (codes "Bob", 0) ∷ (codes "Bo", 0) ∷ (codes "Carl", 0) ∷ (codes "Math", 0) ∷ (codes "CS", 0) ∷ (codes "zero", 1) ∷ [];
  functions = record { name = codes "plus"; args = 1 ∷ 1 ∷ []; result = 1 } ∷ [];
  open_type = None;
}

abbrev pub schema : SchemaData
schema = record {
  typeside = typeside;
  entities = codes "Employee" ∷ codes "Department" ∷ [];
  keys =
      record { name = codes "manager"; from = 0; to = 0 }
      ∷ record { name = codes "worksIn"; from = 0; to = 1 }
      ∷ record { name = codes "secretary"; from = 1; to = 0 }
      ∷ [];
  attributes =
      record { name = codes "first"; from = 0; to = 0 }
      ∷ record { name = codes "last"; from = 0; to = 0 }
      ∷ record { name = codes "age"; from = 0; to = 1 }
      ∷ record { name = codes "cummulative_age"; from = 0; to = 1 }
      ∷ record { name = codes "name"; from = 1; to = 0 }
      ∷ [];
  path_eqs = [];
  obs_eqs = [];
}

abbrev pub employees : InstanceData
employees = record {
  schema = schema;
  presentation = record {
    generators = (codes "a", Entity 0) ∷ (codes "b", Entity 0) ∷ (codes "c", Entity 0) ∷ (codes "m", Entity 1) ∷ (codes "s", Entity 1) ∷ [];
    equations = [];
  };
  names =
      (record { generator = 0; path = [] } ∷ record { generator = 1; path = [] } ∷ record { generator = 2; path = [] } ∷ [])
      ∷ (record { generator = 3; path = [] } ∷ record { generator = 4; path = [] } ∷ [])
      ∷ [];
  tables = record {
    sheet = record {
      counts = 3 ∷ 2 ∷ [];
      keys = (1 ∷ 1 ∷ 2 ∷ []) ∷ (0 ∷ 0 ∷ 1 ∷ []) ∷ (1 ∷ 2 ∷ []) ∷ [];
      cells =
          (Const (Named 0) ∷ Const (Named 1) ∷ Const (Named 3) ∷ [])
          ∷ (Null 0 ∷ Const (Named 2) ∷ Null 4 ∷ [])
          ∷ (Const (Named 6) ∷ Null 2 ∷ Const (Named 6) ∷ [])
          ∷ (Null 1 ∷ Null 3 ∷ Null 5 ∷ [])
          ∷ (Const (Named 4) ∷ Const (Named 5) ∷ [])
          ∷ [];
    };
    algebra = record {
      nulls = 0 ∷ 1 ∷ 1 ∷ 1 ∷ 0 ∷ 1 ∷ [];
      entries =
          record { function = 0; args = Const (Named 6) ∷ Null 2 ∷ []; value = Null 1 }
          ∷ record { function = 0; args = Null 2 ∷ Null 2 ∷ []; value = Null 3 }
          ∷ record { function = 0; args = Const (Named 6) ∷ Const (Named 6) ∷ []; value = Null 5 }
          ∷ [];
    };
  };
  assignment = AtRow 0 ∷ AtRow 1 ∷ AtRow 2 ∷ AtRow 0 ∷ AtRow 1 ∷ [];
  given = false;
}

employees_transcript : transcript_of (codes "I") (codes "S") employees ≡ codes "instance I : S\nentity Employee 3\n1 a first=Al last=?0 age=zero cummulative_age=?1 manager=2 worksIn=1\n2 b first=Bob last=Bo age=?2 cummulative_age=?3 manager=2 worksIn=1\n3 c first=Carl last=?4 age=zero cummulative_age=?5 manager=3 worksIn=2\nentity Department 2\n1 m name=Math secretary=2\n2 s name=CS secretary=3\nnulls 6\n?0 string\n?1 nat\n?2 nat\n?3 nat\n?4 string\n?5 nat\nentries 3\nplus(zero, ?2) = ?1\nplus(?2, ?2) = ?3\nplus(zero, zero) = ?5\nend\n"
unfolding digits
employees_transcript = simp (fold-Const, fold-Null)

employees_literal : literal_of (codes "I") (codes "S") employees ≡ codes "instance I = literal : S {\ngenerators\ng1 : Employee\ng2 : Employee\ng3 : Employee\ng4 : Department\ng5 : Department\ng6 : string\ng7 : nat\ng8 : nat\ng9 : nat\ng10 : string\ng11 : nat\nequations\nfirst(g1) = \"Al\"\nlast(g1) = g6\nage(g1) = \"zero\"\ncummulative_age(g1) = g7\nmanager(g1) = g2\nworksIn(g1) = g4\nfirst(g2) = \"Bob\"\nlast(g2) = \"Bo\"\nage(g2) = g8\ncummulative_age(g2) = g9\nmanager(g2) = g2\nworksIn(g2) = g4\nfirst(g3) = \"Carl\"\nlast(g3) = g10\nage(g3) = \"zero\"\ncummulative_age(g3) = g11\nmanager(g3) = g3\nworksIn(g3) = g5\nname(g4) = \"Math\"\nsecretary(g4) = g2\nname(g5) = \"CS\"\nsecretary(g5) = g3\nplus(\"zero\", g8) = g7\nplus(g8, g8) = g9\nplus(\"zero\", \"zero\") = g11\n}\n"
unfolding digits
employees_literal = simp (fold-Const, fold-Null, terms.folds)

-- a name with keys
manager_of_secretary : name_text schema.keys employees.presentation.generators (record { generator = 4; path = 2 ∷ 0 ∷ [] }) ≡ codes "s.secretary.manager"
manager_of_secretary = refl

-- two rows of one entity, with a null each
abbrev pub two_nulls : InstanceData
two_nulls = record {
  schema = record {
    typeside = record { types = codes "s" ∷ []; constants = (codes "Al", 0) ∷ (codes "Bob", 0) ∷ []; functions = []; open_type = None };
    entities = codes "E" ∷ [];
    keys = [];
    attributes = record { name = codes "x"; from = 0; to = 0 } ∷ [];
    path_eqs = [];
    obs_eqs = [];
  };
  presentation = record { generators = (codes "a", Entity 0) ∷ (codes "b", Entity 0) ∷ []; equations = [] };
  names = (record { generator = 0; path = [] } ∷ record { generator = 1; path = [] } ∷ []) ∷ [];
  tables = record {
    sheet = record { counts = 2 ∷ []; keys = []; cells = (Null 0 ∷ Null 1 ∷ []) ∷ [] };
    algebra = record { nulls = 0 ∷ 0 ∷ []; entries = [] };
  };
  assignment = AtRow 0 ∷ AtRow 1 ∷ [];
  given = false;
}

two_nulls_literal : literal_of (codes "I") (codes "S") two_nulls ≡ codes "instance I = literal : S {\ngenerators\ng1 : E\ng2 : E\ng3 : s\ng4 : s\nequations\nx(g1) = g3\nx(g2) = g4\n}\n"
unfolding digits
two_nulls_literal = simp (fold-Null, terms.folds)

abbrev numbers : TypesideData
numbers = record {
  types = codes "s" ∷ codes "n" ∷ [];
  constants = (codes "Al", 0) ∷ (codes "Bob", 0) ∷ (codes "Carl", 0) ∷ (codes "zero", 1) ∷ (codes "one", 1) ∷ [];
  functions =
      record { name = codes "h"; args = 0 ∷ []; result = 0 }
      ∷ record { name = codes "succ"; args = 1 ∷ []; result = 1 }
      ∷ record { name = codes "plus"; args = 1 ∷ 1 ∷ []; result = 1 }
      ∷ [];
  open_type = None;
}

-- a row whose cell is a built value
abbrev pub built : InstanceData
built = record {
  schema = record {
    typeside = numbers;
    entities = codes "E" ∷ [];
    keys = [];
    attributes = record { name = codes "x"; from = 0; to = 1 } ∷ [];
    path_eqs = [];
    obs_eqs = [];
  };
  presentation = record { generators = (codes "g1", Entity 0) ∷ []; equations = [] };
  names = (record { generator = 0; path = [] } ∷ []) ∷ [];
  tables = record {
    sheet = record { counts = 1 ∷ []; keys = []; cells = (Fun 2 (Const (Named 3) ∷ Const (Named 3) ∷ []) ∷ []) ∷ [] };
    algebra = record { nulls = []; entries = [] };
  };
  assignment = AtRow 0 ∷ [];
  given = false;
}

built_literal : literal_of (codes "J1") (codes "S") built ≡ codes "instance J1 = literal : S {\ngenerators\ng1 : E\nequations\nx(g1) = plus(\"zero\", \"zero\")\n}\n"
unfolding digits
built_literal = simp (fold-Const, fold-Fun, terms.folds)

-- no entity, and two entries with one value
abbrev pub merged : InstanceData
merged = record {
  schema = record { typeside = numbers; entities = []; keys = []; attributes = []; path_eqs = []; obs_eqs = [] };
  presentation = record { generators = []; equations = [] };
  names = [];
  tables = record {
    sheet = record { counts = []; keys = []; cells = [] };
    algebra = record {
      nulls = 0 ∷ [];
      entries =
          record { function = 0; args = Const (Named 0) ∷ []; value = Null 0 }
          ∷ record { function = 0; args = Const (Named 1) ∷ []; value = Null 0 }
          ∷ [];
    };
  };
  assignment = [];
  given = false;
}

merged_literal : literal_of (codes "I") (codes "S") merged ≡ codes "instance I = literal : S {\ngenerators\ng1 : s\nequations\nh(\"Al\") = g1\nh(\"Bob\") = g1\n}\n"
unfolding digits
merged_literal = simp (fold-Const, fold-Null, terms.folds)

-- a declared constant and an open one
abbrev pub open_text : InstanceData
open_text = record {
  schema = record {
    typeside = record { types = codes "s" ∷ []; constants = (codes "Al", 0) ∷ []; functions = []; open_type = Some 0 };
    entities = codes "E" ∷ [];
    keys = [];
    attributes = record { name = codes "x"; from = 0; to = 0 } ∷ [];
    path_eqs = [];
    obs_eqs = [];
  };
  presentation = record { generators = (codes "a", Entity 0) ∷ (codes "b", Entity 0) ∷ []; equations = [] };
  names = (record { generator = 0; path = [] } ∷ record { generator = 1; path = [] } ∷ []) ∷ [];
  tables = record {
    sheet = record { counts = 2 ∷ []; keys = []; cells = (Const (Named 0) ∷ Const (Open (codes "Zed")) ∷ []) ∷ [] };
    algebra = record { nulls = []; entries = [] };
  };
  assignment = AtRow 0 ∷ AtRow 1 ∷ [];
  given = false;
}

open_literal : literal_of (codes "I") (codes "S") open_text ≡ codes "instance I = literal : S {\ngenerators\ng1 : E\ng2 : E\nequations\nx(g1) = \"Al\"\nx(g2) = \"Zed\"\n}\n"
unfolding digits
open_literal = simp (fold-Const, terms.folds)

open_transcript : transcript_of (codes "I") (codes "S") open_text ≡ codes "instance I : S\nentity E 2\n1 a x=Al\n2 b x=\"Zed\"\nnulls 0\nentries 0\nend\n"
unfolding digits
open_transcript = simp fold-Const
