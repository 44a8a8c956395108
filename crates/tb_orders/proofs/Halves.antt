-- The parts of a list's items.
use Rattle.std.proofs.Common.{◌≡◌, ◌∙◌, ap, sym, refl, ℕ, zero, suc, ◌≤◌, ◌<◌, ◌&&◌, Bool, true, false, cond, List, [], ◌∷◌, ◌++◌, take, drop, map, length, nat_le, Option, Some, None, IfSome, Vec, inl, inr, subst, arith, true≢false, append_assoc}
use Rattle.std.proofs.lemmas.Bool.{le-leb, leb-false, leb-true}
use Rattle.std.proofs.lemmas.List.{append-nil, length-map, map-append, take-append-drop}
use Rattle.json.specs.Lex.{tokens}
use Rattle.json.specs.Print.{print}
use Rattle.serde_json.proofs.Nesting.{depth-read}
use Rattle.std.specs.Str.{is_utf8}
use Rattle.serde_json.specs.Data.{Data, array, depth, items_depth}
use Rattle.serde_json.specs.Read.{max_depth, read}
use Rattle.serde_json.specs.View.{items_view, view}
use Rattle.serde_json.specs.declared.value.Value.{Value}
use Rattle.serde_json.specs.declared.value.Value.TheVariants.{Array}
use Rattle.serde_json.proofs.Views.{view-Array}
use Rattle.std.specs.declared.alloc.Global.{Global}
use Rattle.tb_json.specs.Import.{items_of, items_of_json}
use Rattle.tb_json.specs.Parse.{json_of_bytes}
use Rattle.tb_json.proofs.Bytes.{array_items}
use Rattle.tb_orders.specs.Lists.{AreOf, HasLong, are_few, are_taken, items_in, joined}
use Rattle.tb_task.specs.Limits.{longest_body, most_items}

-- ---- how deep the items of a list are

pub depth_take : (n : ℕ) (vs : List Value) (most : ℕ) → items_depth (items_view vs) < most → items_depth (items_view (take n vs)) < most
depth_take zero vs most h = omega (arith, h)
depth_take (suc n) [] most h = h
depth_take (suc n) (v ∷ vs) most h = omega (arith, h, depth_take n vs most (omega (arith, h)))

pub depth_drop : (n : ℕ) (vs : List Value) (most : ℕ) → items_depth (items_view vs) < most → items_depth (items_view (drop n vs)) < most
depth_drop zero vs most h = h
depth_drop (suc n) [] most h = h
depth_drop (suc n) (v ∷ vs) most h = depth_drop n vs most (omega (arith, h))

depth_where : (b : Bool) (text : List ℕ) (d : Data) → cond b (read text) None ≡ Some d → depth d ≤ max_depth
depth_where true text d e = depth-read text d e
depth_where false text d e = absurd (cc)

pub depth_in : (text : List ℕ) (d : Data) → json_of_bytes text ≡ Some d → depth d ≤ max_depth
depth_in text d e = depth_where (is_utf8 text) text d e

-- ---- two halves

halves : (n : ℕ) (vs : List Value) → map view (take n vs) ++ map view (drop n vs) ≡ map view vs
halves n vs = sym (map-append view (take n vs) (drop n vs)) ∙ ap (map view) (take-append-drop n vs)

both_true : (a b : Bool) → (a && b) ≡ true → (a ≡ true) × (b ≡ true)
both_true true b e = (refl, e)
both_true false b e = absurd (true≢false (sym e))

joined_both : (one rest : Option (List Data)) (all : List Data) → joined one rest ≡ Some all
    → (x : List Data) × (y : List Data) × (one ≡ Some x) × (rest ≡ Some y) × (x ++ y ≡ all)
joined_both None rest all e = absurd (cc)
joined_both (Some x) None all e = absurd (cc)
joined_both (Some x) (Some y) all e = (x, y, refl, refl, cc)

items_append : (xs ys : List (List ℕ)) (a b : List Data) → items_in xs ≡ Some a → items_in ys ≡ Some b → items_in (xs ++ ys) ≡ Some (a ++ b)
items_append [] ys a b e f =
    let none : [] ≡ a = cc in
    f ∙ ap (λ c. Some (c ++ b)) none
items_append (part ∷ xs) ys a b e f =
    let both = joined_both (items_of part) (items_in xs) a e in
    rw (both.2, items_append xs ys both.1 b both.3 f)
    (ap Some (sym (append_assoc both.0 both.1 b) ∙ ap (λ c. c ++ b) both.4))

taken_append : (xs ys : List (List ℕ)) → are_taken xs ≡ true → are_taken ys ≡ true → are_taken (xs ++ ys) ≡ true
taken_append [] ys e f = f
taken_append (part ∷ xs) ys e f =
    let first = both_true (nat_le (length part) longest_body) (are_few (items_of part) && are_taken xs) e in
    let second = both_true (are_few (items_of part)) (are_taken xs) first.1 in
    rw (first.0, second.0) (taken_append xs ys second.1 f)

pub of_halves : (n : ℕ) (vs : List Value) (xs ys : List (List ℕ)) → AreOf (map view (take n vs)) (Some xs) → AreOf (map view (drop n vs)) (Some ys) → AreOf (map view vs) (Some (xs ++ ys))
of_halves n vs xs ys e f =
    (items_append xs ys (map view (take n vs)) (map view (drop n vs)) e.0 f.0 ∙ ap Some (halves n vs), taken_append xs ys e.1 f.1)

long_first : (xs ys : List Data) → HasLong xs → HasLong (xs ++ ys)
long_first [] ys h = absurd h
long_first (x ∷ xs) ys (inl h) = inl h
long_first (x ∷ xs) ys (inr h) = inr (long_first xs ys h)

long_last : (xs ys : List Data) → HasLong ys → HasLong (xs ++ ys)
long_last [] ys h = h
long_last (x ∷ xs) ys h = inr (long_last xs ys h)

pub long_half : (n : ℕ) (vs : List Value) → HasLong (map view (take n vs)) → HasLong (map view vs)
long_half n vs h = subst HasLong (halves n vs) (long_first (map view (take n vs)) (map view (drop n vs)) h)

pub long_rest : (n : ℕ) (vs : List Value) → HasLong (map view (drop n vs)) → HasLong (map view vs)
long_rest n vs h = subst HasLong (halves n vs) (long_last (map view (take n vs)) (map view (drop n vs)) h)

-- ---- one part

pub items_of_list : (vs : List Value) (text : List ℕ) → json_of_bytes text ≡ Some (array (items_view vs)) → items_of text ≡ Some (map view vs)
items_of_list vs text e = ap (items_of_json text) e ∙ ap Some (array_items vs)

pub of_one : (vs : List Value) (text : List ℕ) → items_of text ≡ Some (map view vs) → length text ≤ longest_body → length vs ≤ most_items → AreOf (map view vs) (Some (text ∷ []))
of_one vs text e short few =
    let count : nat_le (length (map view vs)) most_items ≡ true = le-leb (length (map view vs)) most_items (omega (arith, length-map vs view, few)) in
    (rw e (ap Some (append-nil (map view vs))), rw (e, le-leb (length text) longest_body short, count) refl)

pub long_one : (vs : List Value) (text : List ℕ) → length vs ≡ 1 → read text ≡ Some (array (items_view vs)) → text ≡ print (tokens text) → longest_body < length text → HasLong (map view vs)
long_one [] text one is compact long = absurd (omega (arith, one))
long_one (v ∷ []) text one is compact long = inl (record { text = text; is = is; compact = compact; long = long })
long_one (v ∷ w ∷ vs) text one is compact long = absurd (omega (arith, one))

short_where : (b : Bool) (vs : List Value) (text : List ℕ) → nat_le (length text) longest_body ≡ b → items_of text ≡ Some (map view vs) → length vs ≤ most_items
    → IfSome (cond b (Some text) None) (λ t. (items_of t ≡ Some (map view vs)) × (length t ≤ longest_body) × (length vs ≤ most_items))
short_where true vs text h e few = (e, leb-true (length text) longest_body h, few)
short_where false vs text h e few = tt

pub short_list : (vs : List Value) (text : List ℕ) → json_of_bytes text ≡ Some (array (items_view vs)) → length vs ≤ most_items
    → IfSome (cond (nat_le (length text) longest_body) (Some text) None) (λ t. (items_of t ≡ Some (map view vs)) × (length t ≤ longest_body) × (length vs ≤ most_items))
short_list vs text e few = short_where (nat_le (length text) longest_body) vs text refl (items_of_list vs text e) few

long_where : (b : Bool) (vs : List Value) (text : List ℕ) → nat_le (length text) longest_body ≡ b → cond b (Some text) None ≡ None → length vs ≡ 1
    → read text ≡ Some (array (items_view vs)) → text ≡ print (tokens text) → HasLong (map view vs)
long_where true vs text h none one is compact = absurd (cc)
long_where false vs text h none one is compact = long_one vs text one is compact (leb-false (length text) longest_body h)

pub long_list : (vs : List Value) (text : List ℕ) → cond (nat_le (length text) longest_body) (Some text) None ≡ None → length vs ≡ 1
    → read text ≡ Some (array (items_view vs)) → text ≡ print (tokens text) → HasLong (map view vs)
long_list vs text none one is compact = long_where (nat_le (length text) longest_body) vs text refl none one is compact

pub tried_text : (vs : Vec Value Global) (text : List ℕ) (short : Option (List ℕ)) → short ≡ cond (nat_le (length text) longest_body) (Some text) None
    → json_of_bytes text ≡ Some (view (Array vs)) → length vs.items ≤ most_items
    → IfSome short (λ t. (items_of t ≡ Some (map view vs.items)) × (length t ≤ longest_body) × (length vs.items ≤ most_items))
tried_text vs text short is e few =
    subst (λ o. IfSome o (λ t. (items_of t ≡ Some (map view vs.items)) × (length t ≤ longest_body) × (length vs.items ≤ most_items))) (sym is)
    (short_list vs.items text (e ∙ ap Some (view-Array vs)) few)

pub tried_none : (vs : Vec Value Global) (text : List ℕ) (short : Option (List ℕ)) → short ≡ cond (nat_le (length text) longest_body) (Some text) None
    → read text ≡ Some (view (Array vs)) → text ≡ print (tokens text) → short ≡ None → length vs.items ≡ 1 → HasLong (map view vs.items)
tried_none vs text short is e compact none one =
    long_list vs.items text (sym is ∙ none) one (e ∙ ap Some (view-Array vs)) compact

pub of_none : (vs : List Value) → length vs ≡ 0 → AreOf (map view vs) (Some [])
of_none [] e = (refl, refl)
of_none (v ∷ vs) e = absurd (omega (arith, e))
