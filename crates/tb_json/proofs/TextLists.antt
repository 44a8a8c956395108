-- Lists that are filled from a list, one after another.
use Rattle.std.proofs.Common.{◌≡◌, ℕ, zero, suc, ◌<◌, List, [], ◌∷◌, ◌++◌, length, get_or, drop, Some, sym, arith}
use Rattle.serde_json.specs.Find.{as_str}
use Rattle.serde_json.specs.View.{view, items_view}
use Rattle.serde_json.specs.declared.value.Value.{Value}
use Rattle.tb_json.specs.Lists.{texts_of}

-- the item at an index is taken
pub texts_of-more : (vs : List Value) (i : ℕ) (v : Value) (found : List (List ℕ)) (text : List ℕ) → i < length vs → v ≡ get_or vs i v → as_str (view v) ≡ Some text
    → texts_of found (items_view (drop i vs)) ≡ texts_of (found ++ text ∷ []) (items_view (drop (suc i) vs))
texts_of-more [] i v found text h is e = absurd (omega arith)
texts_of-more (x ∷ vs) zero v found text h is e = rw (sym is, e)
texts_of-more (x ∷ vs) (suc i) v found text h is e = texts_of-more vs i v found text (omega arith) is e
