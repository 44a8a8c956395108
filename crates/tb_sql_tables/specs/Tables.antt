-- The eleven tables of a store: their definitions, and the schema that they make up. A store of the second version has all but the
-- last, and one of the first version all but the last two.
use Rattle.std.specs.Prelude.{true, false, [], ◌∷◌, Option, Some, None, codes, List, ℕ, pos}
use Rattle.sqlite_value.specs.declared.keys.Collation.TheVariants.{Binary}
use Rattle.sqlite_value.specs.declared.value.Value.TheVariants.{Null, Int}
use Rattle.sqlite_value.specs.declared.keys.Order.{Order}
use Rattle.sqlite_value.specs.Keys.{plain}
use Rattle.sqlite_sql.specs.Term.{Term, lit, col, op2}
use Rattle.sqlite_sql.specs.declared.ops.BinaryOp.TheVariants.{And, Compare}
use Rattle.sqlite_sql.specs.declared.ops.CompareOp.TheVariants.{Eq, Ge, Le}
use Rattle.sqlite_schema.specs.declared.schema.Column.{Column}
use Rattle.sqlite_schema.specs.declared.schema.Reference.{Reference}
use Rattle.sqlite_schema.specs.declared.schema.Action.TheVariants.{NoAction}
use Rattle.sqlite_schema.specs.declared.schema.Table.{Table}
use Rattle.sqlite_schema.specs.declared.schema.Schema.{Schema}
use Rattle.sqlite_schema.specs.declared.schema.Kind.{Kind}
use Rattle.sqlite_schema.specs.declared.schema.Kind.TheVariants.{Integer, Text, Blob}
use Rattle.sqlite_catalog.specs.Listing.{automatic}

-- ---- the texts that make the tables, in this order

abbrev pub create_meta_text : List ℕ
create_meta_text =
    codes
    "CREATE TABLE meta(one INTEGER PRIMARY KEY CHECK(one = 1), kind TEXT NOT NULL, version INTEGER NOT NULL) STRICT"

abbrev pub create_person_text : List ℕ
create_person_text =
    codes
    "CREATE TABLE person(id INTEGER PRIMARY KEY, name TEXT NOT NULL UNIQUE, secret TEXT NOT NULL) STRICT"

abbrev pub create_board_text : List ℕ
create_board_text =
    codes
    "CREATE TABLE board(id INTEGER PRIMARY KEY, title TEXT NOT NULL, low INTEGER NOT NULL) STRICT"

abbrev pub create_role_text : List ℕ
create_role_text =
    codes
    "CREATE TABLE role(board INTEGER NOT NULL REFERENCES board(id), person INTEGER NOT NULL REFERENCES person(id), kind INTEGER NOT NULL, PRIMARY KEY(board, person)) STRICT"

abbrev pub create_task_text : List ℕ
create_task_text =
    codes
    "CREATE TABLE task(board INTEGER NOT NULL REFERENCES board(id), place INTEGER NOT NULL, uuid BLOB NOT NULL, body TEXT NOT NULL, mask TEXT, PRIMARY KEY(board, place), UNIQUE(board, uuid)) STRICT"

abbrev pub create_link_text : List ℕ
create_link_text =
    codes
    "CREATE TABLE link(board INTEGER NOT NULL, place INTEGER NOT NULL, target INTEGER NOT NULL, PRIMARY KEY(board, place, target)) STRICT"

abbrev pub create_instance_text : List ℕ
create_instance_text =
    codes
    "CREATE TABLE instance(board INTEGER NOT NULL, template INTEGER NOT NULL, imask INTEGER NOT NULL, place INTEGER NOT NULL, PRIMARY KEY(board, template, imask), UNIQUE(board, place)) STRICT"

abbrev pub create_gone_text : List ℕ
create_gone_text =
    codes
    "CREATE TABLE gone(board INTEGER NOT NULL, template INTEGER NOT NULL, imask INTEGER NOT NULL, mark TEXT NOT NULL, PRIMARY KEY(board, template, imask)) STRICT"

abbrev pub create_kept_text : List ℕ
create_kept_text =
    codes
    "CREATE TABLE kept(person INTEGER NOT NULL REFERENCES person(id), id BLOB NOT NULL, content BLOB NOT NULL, number INTEGER NOT NULL, status INTEGER NOT NULL, body TEXT NOT NULL, PRIMARY KEY(person, id)) STRICT"

abbrev pub create_horizon_text : List ℕ
create_horizon_text =
    codes
    "CREATE TABLE horizon(board INTEGER PRIMARY KEY REFERENCES board(id), ahead INTEGER NOT NULL CHECK(ahead >= 1 AND ahead <= 12)) STRICT"

abbrev pub create_history_text : List ℕ
create_history_text =
    codes
    "CREATE TABLE history(board INTEGER NOT NULL REFERENCES board(id), number INTEGER NOT NULL, moment INTEGER NOT NULL, person INTEGER NOT NULL REFERENCES person(id), call BLOB NOT NULL, what INTEGER NOT NULL, task INTEGER, PRIMARY KEY(board, number), UNIQUE(board, task, number)) STRICT"

-- ---- the tables that they define

-- a column of a STRICT table with no default
abbrev pub column_of : List ℕ → Kind → Column
column_of name kind =
    record {
      name = name;
      kind = kind;
      is_strict = true;
      not_null = true;
      default = Null;
      collation = Binary;
    }

-- a table with no default, no AUTOINCREMENT and nothing that reads the time
pub record Plain : Type 0 where
  pub name : List ℕ
  pub tree : ℕ
  pub columns : List Column
  pub key : Option ℕ
  pub primary : List ℕ
  pub uniques : List (List ℕ)
  pub orders : List Order
  pub checks : List Term
  pub references : List Reference

abbrev pub table_of : Plain → Table
table_of plain = record {
  name = plain.name;
  tree = plain.tree;
  columns = plain.columns;
  key = plain.key;
  primary = plain.primary;
  uniques = plain.uniques;
  orders = plain.orders;
  checks = plain.checks;
  references = plain.references;
  computed = [];
  stamps = record { places = []; terms = []; formats = [] };
  is_counted = false;
}

-- a column that refers to a column of another table, which refuses what would break it
abbrev pub refers : ℕ → List ℕ → List ℕ → Reference
refers place parent column =
    record {
      columns = place ∷ [];
      parent = parent;
      parent_columns = column ∷ [];
      on_delete = NoAction;
      on_update = NoAction;
      is_deferred = false;
    }

abbrev pub meta_tree : ℕ
meta_tree = 0

abbrev pub meta_plain : Plain
meta_plain = record {
  name = codes "meta";
  tree = meta_tree;
  columns = record (column_of (codes "one") Integer) { not_null = false }
      ∷ column_of (codes "kind") Text ∷ column_of (codes "version") Integer ∷ [];
  key = Some 0;
  primary = 0 ∷ [];
  uniques = [];
  orders = [];
  checks = op2 (Compare Eq Binary) (col 1 0) (lit (Int (pos 1))) ∷ [];
  references = [];
}

abbrev pub meta_table : Table
meta_table = table_of meta_plain

abbrev pub person_tree : ℕ
person_tree = 1

abbrev pub person_plain : Plain
person_plain = record {
  name = codes "person";
  tree = person_tree;
  columns = record (column_of (codes "id") Integer) { not_null = false }
      ∷ column_of (codes "name") Text ∷ column_of (codes "secret") Text ∷ [];
  key = Some 0;
  primary = 0 ∷ [];
  uniques = (2 ∷ []) ∷ [];
  orders = plain ∷ [];
  checks = [];
  references = [];
}

abbrev pub person_table : Table
person_table = table_of person_plain

abbrev pub board_tree : ℕ
board_tree = 3

abbrev pub board_plain : Plain
board_plain = record {
  name = codes "board";
  tree = board_tree;
  columns = record (column_of (codes "id") Integer) { not_null = false }
      ∷ column_of (codes "title") Text ∷ column_of (codes "low") Integer ∷ [];
  key = Some 0;
  primary = 0 ∷ [];
  uniques = [];
  orders = [];
  checks = [];
  references = [];
}

abbrev pub board_table : Table
board_table = table_of board_plain

abbrev pub role_tree : ℕ
role_tree = 4

abbrev pub role_plain : Plain
role_plain = record {
  name = codes "role";
  tree = role_tree;
  columns = column_of (codes "board") Integer ∷ column_of (codes "person") Integer
      ∷ column_of (codes "kind") Integer ∷ [];
  key = None;
  primary = 1 ∷ 2 ∷ [];
  uniques = (1 ∷ 2 ∷ []) ∷ [];
  orders = plain ∷ [];
  checks = [];
  references = refers 1 (codes "board") (codes "id") ∷ refers 2 (codes "person") (codes "id") ∷ [];
}

abbrev pub role_table : Table
role_table = table_of role_plain

abbrev pub task_tree : ℕ
task_tree = 6

abbrev pub task_plain : Plain
task_plain = record {
  name = codes "task";
  tree = task_tree;
  columns = column_of (codes "board") Integer ∷ column_of (codes "place") Integer
      ∷ column_of (codes "uuid") Blob ∷ column_of (codes "body") Text
      ∷ record (column_of (codes "mask") Text) { not_null = false } ∷ [];
  key = None;
  primary = 1 ∷ 2 ∷ [];
  uniques = (1 ∷ 2 ∷ []) ∷ (1 ∷ 3 ∷ []) ∷ [];
  orders = plain ∷ plain ∷ [];
  checks = [];
  references = refers 1 (codes "board") (codes "id") ∷ [];
}

abbrev pub task_table : Table
task_table = table_of task_plain

abbrev pub link_tree : ℕ
link_tree = 9

abbrev pub link_plain : Plain
link_plain = record {
  name = codes "link";
  tree = link_tree;
  columns = column_of (codes "board") Integer ∷ column_of (codes "place") Integer
      ∷ column_of (codes "target") Integer ∷ [];
  key = None;
  primary = 1 ∷ 2 ∷ 3 ∷ [];
  uniques = (1 ∷ 2 ∷ 3 ∷ []) ∷ [];
  orders = plain ∷ [];
  checks = [];
  references = [];
}

abbrev pub link_table : Table
link_table = table_of link_plain

abbrev pub instance_tree : ℕ
instance_tree = 11

abbrev pub instance_plain : Plain
instance_plain = record {
  name = codes "instance";
  tree = instance_tree;
  columns = column_of (codes "board") Integer ∷ column_of (codes "template") Integer
      ∷ column_of (codes "imask") Integer ∷ column_of (codes "place") Integer ∷ [];
  key = None;
  primary = 1 ∷ 2 ∷ 3 ∷ [];
  uniques = (1 ∷ 2 ∷ 3 ∷ []) ∷ (1 ∷ 4 ∷ []) ∷ [];
  orders = plain ∷ plain ∷ [];
  checks = [];
  references = [];
}

abbrev pub instance_table : Table
instance_table = table_of instance_plain

abbrev pub gone_tree : ℕ
gone_tree = 14

abbrev pub gone_plain : Plain
gone_plain = record {
  name = codes "gone";
  tree = gone_tree;
  columns = column_of (codes "board") Integer ∷ column_of (codes "template") Integer
      ∷ column_of (codes "imask") Integer ∷ column_of (codes "mark") Text ∷ [];
  key = None;
  primary = 1 ∷ 2 ∷ 3 ∷ [];
  uniques = (1 ∷ 2 ∷ 3 ∷ []) ∷ [];
  orders = plain ∷ [];
  checks = [];
  references = [];
}

abbrev pub gone_table : Table
gone_table = table_of gone_plain

abbrev pub kept_tree : ℕ
kept_tree = 16

abbrev pub kept_plain : Plain
kept_plain = record {
  name = codes "kept";
  tree = kept_tree;
  columns = column_of (codes "person") Integer ∷ column_of (codes "id") Blob
      ∷ column_of (codes "content") Blob ∷ column_of (codes "number") Integer
      ∷ column_of (codes "status") Integer ∷ column_of (codes "body") Text ∷ [];
  key = None;
  primary = 1 ∷ 2 ∷ [];
  uniques = (1 ∷ 2 ∷ []) ∷ [];
  orders = plain ∷ [];
  checks = [];
  references = refers 1 (codes "person") (codes "id") ∷ [];
}

abbrev pub kept_table : Table
kept_table = table_of kept_plain

abbrev pub horizon_tree : ℕ
horizon_tree = 18

abbrev pub horizon_plain : Plain
horizon_plain = record {
  name = codes "horizon";
  tree = horizon_tree;
  columns = record (column_of (codes "board") Integer) { not_null = false }
      ∷ column_of (codes "ahead") Integer ∷ [];
  key = Some 0;
  primary = 0 ∷ [];
  uniques = [];
  orders = [];
  checks = op2 And (op2 (Compare Ge Binary) (col 1 2) (lit (Int (pos 1))))
      (op2 (Compare Le Binary) (col 1 2) (lit (Int (pos 12)))) ∷ [];
  references = refers 0 (codes "board") (codes "id") ∷ [];
}

abbrev pub horizon_table : Table
horizon_table = table_of horizon_plain

abbrev pub history_tree : ℕ
history_tree = 19

abbrev pub history_plain : Plain
history_plain = record {
  name = codes "history";
  tree = history_tree;
  columns = column_of (codes "board") Integer ∷ column_of (codes "number") Integer
      ∷ column_of (codes "moment") Integer ∷ column_of (codes "person") Integer
      ∷ column_of (codes "call") Blob ∷ column_of (codes "what") Integer
      ∷ record (column_of (codes "task") Integer) { not_null = false } ∷ [];
  key = None;
  primary = 1 ∷ 2 ∷ [];
  uniques = (1 ∷ 2 ∷ []) ∷ (1 ∷ 7 ∷ 2 ∷ []) ∷ [];
  orders = plain ∷ plain ∷ [];
  checks = [];
  references = refers 1 (codes "board") (codes "id") ∷ refers 4 (codes "person") (codes "id") ∷ [];
}

abbrev pub history_table : Table
history_table = table_of history_plain

-- ---- the schema after each of the texts: the last is that of a store, and the two before it those of a store of the second and of the
-- first version

-- Rule: init takes an empty database alone. Refused as NotEmpty. Tried by strange_files.
abbrev pub no_schema : Schema
no_schema = record { tables = []; indexes = []; views = [] }

abbrev pub meta_schema : Schema
meta_schema = record {
  tables = meta_table ∷ [];
  indexes = [];
  views = [];
}

abbrev pub person_schema : Schema
person_schema = record {
  tables = meta_table ∷ person_table ∷ [];
  indexes = automatic person_table 0 (2 ∷ []) 2 ∷ [];
  views = [];
}

abbrev pub board_schema : Schema
board_schema = record {
  tables = meta_table ∷ person_table ∷ board_table ∷ [];
  indexes = automatic person_table 0 (2 ∷ []) 2 ∷ [];
  views = [];
}

abbrev pub role_schema : Schema
role_schema = record {
  tables = meta_table ∷ person_table ∷ board_table ∷ role_table ∷ [];
  indexes = automatic person_table 0 (2 ∷ []) 2 ∷ automatic role_table 0 (1 ∷ 2 ∷ []) 5 ∷ [];
  views = [];
}

abbrev pub task_schema : Schema
task_schema = record {
  tables = meta_table ∷ person_table ∷ board_table ∷ role_table ∷ task_table ∷ [];
  indexes = automatic person_table 0 (2 ∷ []) 2 ∷ automatic role_table 0 (1 ∷ 2 ∷ []) 5
      ∷ automatic task_table 0 (1 ∷ 2 ∷ []) 7 ∷ automatic task_table 1 (1 ∷ 3 ∷ []) 8 ∷ [];
  views = [];
}

abbrev pub link_schema : Schema
link_schema = record {
  tables = meta_table ∷ person_table ∷ board_table ∷ role_table ∷ task_table ∷ link_table ∷ [];
  indexes = automatic person_table 0 (2 ∷ []) 2 ∷ automatic role_table 0 (1 ∷ 2 ∷ []) 5
      ∷ automatic task_table 0 (1 ∷ 2 ∷ []) 7 ∷ automatic task_table 1 (1 ∷ 3 ∷ []) 8
      ∷ automatic link_table 0 (1 ∷ 2 ∷ 3 ∷ []) 10 ∷ [];
  views = [];
}

abbrev pub instance_schema : Schema
instance_schema = record {
  tables = meta_table ∷ person_table ∷ board_table ∷ role_table ∷ task_table ∷ link_table
      ∷ instance_table ∷ [];
  indexes = automatic person_table 0 (2 ∷ []) 2 ∷ automatic role_table 0 (1 ∷ 2 ∷ []) 5
      ∷ automatic task_table 0 (1 ∷ 2 ∷ []) 7 ∷ automatic task_table 1 (1 ∷ 3 ∷ []) 8
      ∷ automatic link_table 0 (1 ∷ 2 ∷ 3 ∷ []) 10 ∷ automatic instance_table 0 (1 ∷ 2 ∷ 3 ∷ []) 12
      ∷ automatic instance_table 1 (1 ∷ 4 ∷ []) 13 ∷ [];
  views = [];
}

abbrev pub gone_schema : Schema
gone_schema = record {
  tables = meta_table ∷ person_table ∷ board_table ∷ role_table ∷ task_table ∷ link_table
      ∷ instance_table ∷ gone_table ∷ [];
  indexes = automatic person_table 0 (2 ∷ []) 2 ∷ automatic role_table 0 (1 ∷ 2 ∷ []) 5
      ∷ automatic task_table 0 (1 ∷ 2 ∷ []) 7 ∷ automatic task_table 1 (1 ∷ 3 ∷ []) 8
      ∷ automatic link_table 0 (1 ∷ 2 ∷ 3 ∷ []) 10 ∷ automatic instance_table 0 (1 ∷ 2 ∷ 3 ∷ []) 12
      ∷ automatic instance_table 1 (1 ∷ 4 ∷ []) 13
      ∷ automatic gone_table 0 (1 ∷ 2 ∷ 3 ∷ []) 15 ∷ [];
  views = [];
}

abbrev pub old_schema : Schema
old_schema = record {
  tables = meta_table ∷ person_table ∷ board_table ∷ role_table ∷ task_table ∷ link_table
      ∷ instance_table ∷ gone_table ∷ kept_table ∷ [];
  indexes = automatic person_table 0 (2 ∷ []) 2 ∷ automatic role_table 0 (1 ∷ 2 ∷ []) 5
      ∷ automatic task_table 0 (1 ∷ 2 ∷ []) 7 ∷ automatic task_table 1 (1 ∷ 3 ∷ []) 8
      ∷ automatic link_table 0 (1 ∷ 2 ∷ 3 ∷ []) 10 ∷ automatic instance_table 0 (1 ∷ 2 ∷ 3 ∷ []) 12
      ∷ automatic instance_table 1 (1 ∷ 4 ∷ []) 13 ∷ automatic gone_table 0 (1 ∷ 2 ∷ 3 ∷ []) 15
      ∷ automatic kept_table 0 (1 ∷ 2 ∷ []) 17 ∷ [];
  views = [];
}

abbrev pub second_schema : Schema
second_schema = record {
  tables = meta_table ∷ person_table ∷ board_table ∷ role_table ∷ task_table ∷ link_table
      ∷ instance_table ∷ gone_table ∷ kept_table ∷ horizon_table ∷ [];
  indexes = automatic person_table 0 (2 ∷ []) 2 ∷ automatic role_table 0 (1 ∷ 2 ∷ []) 5
      ∷ automatic task_table 0 (1 ∷ 2 ∷ []) 7 ∷ automatic task_table 1 (1 ∷ 3 ∷ []) 8
      ∷ automatic link_table 0 (1 ∷ 2 ∷ 3 ∷ []) 10 ∷ automatic instance_table 0 (1 ∷ 2 ∷ 3 ∷ []) 12
      ∷ automatic instance_table 1 (1 ∷ 4 ∷ []) 13 ∷ automatic gone_table 0 (1 ∷ 2 ∷ 3 ∷ []) 15
      ∷ automatic kept_table 0 (1 ∷ 2 ∷ []) 17 ∷ [];
  views = [];
}

abbrev pub store_schema : Schema
store_schema = record {
  tables = meta_table ∷ person_table ∷ board_table ∷ role_table ∷ task_table ∷ link_table
      ∷ instance_table ∷ gone_table ∷ kept_table ∷ horizon_table ∷ history_table ∷ [];
  indexes = automatic person_table 0 (2 ∷ []) 2 ∷ automatic role_table 0 (1 ∷ 2 ∷ []) 5
      ∷ automatic task_table 0 (1 ∷ 2 ∷ []) 7 ∷ automatic task_table 1 (1 ∷ 3 ∷ []) 8
      ∷ automatic link_table 0 (1 ∷ 2 ∷ 3 ∷ []) 10 ∷ automatic instance_table 0 (1 ∷ 2 ∷ 3 ∷ []) 12
      ∷ automatic instance_table 1 (1 ∷ 4 ∷ []) 13 ∷ automatic gone_table 0 (1 ∷ 2 ∷ 3 ∷ []) 15
      ∷ automatic kept_table 0 (1 ∷ 2 ∷ []) 17 ∷ automatic history_table 0 (1 ∷ 2 ∷ []) 20
      ∷ automatic history_table 1 (1 ∷ 7 ∷ 2 ∷ []) 21 ∷ [];
  views = [];
}
