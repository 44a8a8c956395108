-- The compact text of a value with no float reads as that value.
use Rattle.std.proofs.Common.{◌≡◌, ℕ, pos, negsuc, suc, ◌^◌, ◌<◌, ◌≤◌, max, List, [], ◌∷◌, ◌++◌, Option, Some, option_map, option_and_then, Ordering, Less, Equal, Greater, refl, sym, ap, ap₂, ◌∙◌, append-nil, append_assoc, arith}
use Rattle.std.proofs.lemmas.Cmp.{nat_list_cmp_total}
use Rattle.std.specs.Prelude.{⊤}
use Rattle.std.specs.List.{AllByRecursion}
use Rattle.std.specs.List.Sorted.{IsStrictlySortedBy}
use Rattle.std.specs.Ordering.{match_ordering, ordering_reverse}
use Rattle.json.specs.Token.{Token}
use Rattle.json.specs.Lex.{tokens}
use Rattle.json.specs.Json as json
use Rattle.json.specs.Tree as tree
use Rattle.json.proofs.Printed.Tokens.{tokens-print}
use Rattle.json.proofs.Printed.Decimals.{IsNumber-decimal, IsNumber-signed_decimal}
use Rattle.json.proofs.Printed.Trees.{value-json_tokens, ArePrintable-json_tokens}
use Rattle.serde_json.specs.Data.{Num, unsigned, negative, float, Data, null, boolean, number, string, array, object, Items, no_items, item, Members, no_members, member, put, depth, items_depth, members_depth}
use Rattle.serde_json.specs.Read.{of_json, of_items, of_members, read, max_depth}
use Rattle.serde_json.specs.Written.{outline, items_outline, members_outline, compact_text}
use Rattle.serde_json.proofs.Numbers.{number_of-decimal, number_of-negative}
use Rattle.serde_json.proofs.Texts.{print-outline}
use Rattle.tb_json.proofs.Names.{names, below_later}
use Rattle.tb_values.proofs.TextSets.{text_cmp}

-- an integer of 64 bits
abbrev pub Fits64 : Num → Type 0
Fits64 (unsigned n) = n < 2 ^ 64
Fits64 (negative (pos n)) = ⊥
Fits64 (negative (negsuc n)) = n < 2 ^ 63
Fits64 (float x) = ⊥

-- the value has no float, and each object has its keys in byte order
abbrev mutual
  pub IsPlain : Data → Type 0
  IsPlain null = ⊤
  IsPlain (boolean b) = ⊤
  IsPlain (number n) = Fits64 n
  IsPlain (string s) = ⊤
  IsPlain (array ds) = ItemsArePlain ds
  IsPlain (object ms) = MembersArePlain ms × IsStrictlySortedBy text_cmp (names ms)

  pub ItemsArePlain : Items → Type 0
  ItemsArePlain no_items = ⊤
  ItemsArePlain (item d ds) = IsPlain d × ItemsArePlain ds

  pub MembersArePlain : Members → Type 0
  MembersArePlain no_members = ⊤
  MembersArePlain (member k d ms) = IsPlain d × MembersArePlain ms

-- ---- members one after another

abbrev pub joined : Members → Members → Members
joined no_members more = more
joined (member k d ms) more = member k d (joined ms more)

pub joined-nothing : (ms : Members) → joined ms no_members ≡ ms
joined-nothing no_members = refl
joined-nothing (member k d ms) = ap (member k d) (joined-nothing ms)

pub joined-joined : (a b c : Members) → joined (joined a b) c ≡ joined a (joined b c)
joined-joined no_members b c = refl
joined-joined (member k d ms) b c = ap (member k d) (joined-joined ms b c)

pub names-joined : (a b : Members) → names (joined a b) ≡ names a ++ names b
names-joined no_members b = refl
names-joined (member k d ms) b = ap (λ ks. k ∷ ks) (names-joined ms b)

-- a key above those before it goes last
pub put_last : (done : Members) (k : List ℕ) (d : Data) (ks : List (List ℕ)) → IsStrictlySortedBy text_cmp (names done ++ k ∷ ks) → put k d done ≡ joined done (member k d no_members)
unfolding IsStrictlySortedBy
put_last no_members k d ks h = refl
put_last (member l e ms) k d ks h =
    let above : text_cmp k l ≡ Greater = nat_list_cmp_total.antisymm k l ∙ ap ordering_reverse (below_later l (names ms) k ks h.0) in
    rw above (ap (member l e) (put_last ms k d ks h.1))

pub sorted_on : (done : Members) (k : List ℕ) (d : Data) (ks : List (List ℕ)) → IsStrictlySortedBy text_cmp (names done ++ k ∷ ks) → IsStrictlySortedBy text_cmp (names (joined done (member k d no_members)) ++ ks)
sorted_on done k d ks h = rw (names-joined done (member k d no_members), append_assoc) h

-- ---- the tree of a value is that value

mutual
  of_json-outline : (d : Data) → IsPlain d → of_json (outline d) ≡ Some d
  of_json-outline null h = refl
  of_json-outline (boolean b) h = refl
  of_json-outline (number (unsigned n)) h = ap (option_map number) (number_of-decimal n h)
  of_json-outline (number (negative (pos n))) h = absurd h
  of_json-outline (number (negative (negsuc n))) h = ap (option_map number) (number_of-negative n h)
  of_json-outline (number (float x)) h = absurd h
  of_json-outline (string s) h = refl
  of_json-outline (array ds) h = ap (option_map array) (of_items-outline ds h)
  of_json-outline (object ms) h = ap (option_map object) (of_members-outline ms no_members h.0 h.1)

  of_items-outline : (ds : Items) → ItemsArePlain ds → of_items (items_outline ds) ≡ Some ds
  of_items-outline no_items h = refl
  of_items-outline (item d ds) h = rw (of_json-outline d h.0) (ap (option_map (item d)) (of_items-outline ds h.1))

  of_members-outline : (ms done : Members) → MembersArePlain ms → IsStrictlySortedBy text_cmp (names done ++ names ms) → of_members (members_outline ms) done ≡ Some (joined done ms)
  of_members-outline no_members done h s = ap Some (sym (joined-nothing done))
  of_members-outline (member k d ms) done h s =
      let next = joined done (member k d no_members) in
      rw (of_json-outline d h.0, put_last done k d (names ms) s)
      (of_members-outline ms next h.1 (sorted_on done k d (names ms) s) ∙ ap Some (joined-joined done (member k d no_members) ms))

mutual
  HasNumbers-outline : (d : Data) → IsPlain d → tree.HasNumbers (outline d)
  HasNumbers-outline null h = tt
  HasNumbers-outline (boolean b) h = tt
  HasNumbers-outline (number (unsigned n)) h = IsNumber-decimal n h
  HasNumbers-outline (number (negative (pos n))) h = absurd h
  HasNumbers-outline (number (negative (negsuc n))) h = IsNumber-signed_decimal (negsuc n) h
  HasNumbers-outline (number (float x)) h = absurd h
  HasNumbers-outline (string s) h = tt
  HasNumbers-outline (array ds) h = ItemsHaveNumbers-outline ds h
  HasNumbers-outline (object ms) h = MembersHaveNumbers-outline ms h.0

  ItemsHaveNumbers-outline : (ds : Items) → ItemsArePlain ds → tree.ItemsHaveNumbers (items_outline ds)
  ItemsHaveNumbers-outline no_items h = tt
  ItemsHaveNumbers-outline (item d ds) h = (HasNumbers-outline d h.0, ItemsHaveNumbers-outline ds h.1)

  MembersHaveNumbers-outline : (ms : Members) → MembersArePlain ms → tree.MembersHaveNumbers (members_outline ms)
  MembersHaveNumbers-outline no_members h = tt
  MembersHaveNumbers-outline (member k d ms) h = (HasNumbers-outline d h.0, MembersHaveNumbers-outline ms h.1)

mutual
  depth-outline : (d : Data) → tree.depth (outline d) ≡ depth d
  depth-outline null = refl
  depth-outline (boolean b) = refl
  depth-outline (number n) = refl
  depth-outline (string s) = refl
  depth-outline (array ds) = ap suc (items_depth-outline ds)
  depth-outline (object ms) = ap suc (members_depth-outline ms)

  items_depth-outline : (ds : Items) → tree.items_depth (items_outline ds) ≡ items_depth ds
  items_depth-outline no_items = refl
  items_depth-outline (item d ds) = ap₂ max (depth-outline d) (items_depth-outline ds)

  members_depth-outline : (ms : Members) → tree.members_depth (members_outline ms) ≡ members_depth ms
  members_depth-outline no_members = refl
  members_depth-outline (member k d ms) = ap₂ max (depth-outline d) (members_depth-outline ms)

abbrev last : Option (json.Json × List Token) → Option Data
last o = option_and_then of_json (option_and_then (λ p. json.if_last p.0 p.1) o)

pub read-compact_text : (d : Data) → IsPlain d → depth d ≤ max_depth → read (compact_text d) ≡ Some d
read-compact_text d plain shallow =
    let j = outline d in
    let ts = tree.json_tokens j in
    let lexed = ap tokens (sym (print-outline d)) ∙ tokens-print ts (ArePrintable-json_tokens j (HasNumbers-outline d plain)) in
    let parsed = value-json_tokens j max_depth [] (rw (depth-outline d) shallow) in
    ap (λ us. last (json.value max_depth us)) (lexed ∙ sym (append-nil ts)) ∙ ap last parsed ∙ of_json-outline d plain

-- ---- `put` keeps a value plain

-- what a key is below, a key below it is below too
below_all : (ys : List (List ℕ)) (k l : List ℕ) → text_cmp k l ≡ Less → AllByRecursion (λ y. text_cmp l y ≡ Less) ys → AllByRecursion (λ y. text_cmp k y ≡ Less) ys
below_all [] k l is h = tt
below_all (y ∷ ys) k l is h = (nat_list_cmp_total.trans k l y is h.0, below_all ys k l is h.1)

sorted_at : (o : Ordering) (k l : List ℕ) (d e : Data) (ms rest : Members) → text_cmp k l ≡ o → AllByRecursion (λ y. text_cmp l y ≡ Less) (names ms) → IsStrictlySortedBy text_cmp (names ms)
    → (text_cmp l k ≡ Less → AllByRecursion (λ y. text_cmp l y ≡ Less) (names rest)) → IsStrictlySortedBy text_cmp (names rest)
    → IsStrictlySortedBy text_cmp (names (match_ordering o (member k d (member l e ms)) (member l d ms) (member l e rest)))
unfolding IsStrictlySortedBy
sorted_at Less k l d e ms rest is below sorted above later = ((is, below_all (names ms) k l is below), (below, sorted))
sorted_at Equal k l d e ms rest is below sorted above later = (below, sorted)
sorted_at Greater k l d e ms rest is below sorted above later = (above (nat_list_cmp_total.antisymm l k ∙ ap ordering_reverse is), later)

below_put_at : (o : Ordering) (x k l : List ℕ) (d e : Data) (ms rest : Members) → text_cmp x k ≡ Less → text_cmp x l ≡ Less → AllByRecursion (λ y. text_cmp x y ≡ Less) (names ms) → AllByRecursion (λ y. text_cmp x y ≡ Less) (names rest)
    → AllByRecursion (λ y. text_cmp x y ≡ Less) (names (match_ordering o (member k d (member l e ms)) (member l d ms) (member l e rest)))
below_put_at Less x k l d e ms rest hk hl hm hr = (hk, (hl, hm))
below_put_at Equal x k l d e ms rest hk hl hm hr = (hl, hm)
below_put_at Greater x k l d e ms rest hk hl hm hr = (hl, hr)

below_put : (x k : List ℕ) (d : Data) (ms : Members) → text_cmp x k ≡ Less → AllByRecursion (λ y. text_cmp x y ≡ Less) (names ms) → AllByRecursion (λ y. text_cmp x y ≡ Less) (names (put k d ms))
below_put x k d no_members hk h = (hk, tt)
below_put x k d (member l e ms) hk h = below_put_at (text_cmp k l) x k l d e ms (put k d ms) hk h.0 h.1 (below_put x k d ms hk h.1)

pub sorted_put : (k : List ℕ) (d : Data) (ms : Members) → IsStrictlySortedBy text_cmp (names ms) → IsStrictlySortedBy text_cmp (names (put k d ms))
unfolding IsStrictlySortedBy
sorted_put k d no_members h = (tt, tt)
sorted_put k d (member l e ms) h = sorted_at (text_cmp k l) k l d e ms (put k d ms) refl h.0 h.1 (λ lk. below_put l k d ms lk h.0) (sorted_put k d ms h.1)

plain_at : (o : Ordering) (k l : List ℕ) (d e : Data) (ms rest : Members) → IsPlain d → IsPlain e → MembersArePlain ms → MembersArePlain rest → MembersArePlain (match_ordering o (member k d (member l e ms)) (member l d ms) (member l e rest))
plain_at Less k l d e ms rest hd he hm hr = (hd, (he, hm))
plain_at Equal k l d e ms rest hd he hm hr = (hd, hm)
plain_at Greater k l d e ms rest hd he hm hr = (he, hr)

pub plain_put : (k : List ℕ) (d : Data) (ms : Members) → IsPlain d → MembersArePlain ms → MembersArePlain (put k d ms)
plain_put k d no_members hd hm = (hd, tt)
plain_put k d (member l e ms) hd hm = plain_at (text_cmp k l) k l d e ms (put k d ms) hd hm.0 hm.1 (plain_put k d ms hd hm.1)

depth_at : (n : ℕ) (o : Ordering) (k l : List ℕ) (d e : Data) (ms rest : Members) → depth d ≤ n → depth e ≤ n → members_depth ms ≤ n → members_depth rest ≤ n → members_depth (match_ordering o (member k d (member l e ms)) (member l d ms) (member l e rest)) ≤ n
depth_at n Less k l d e ms rest hd he hm hr = omega arith
depth_at n Equal k l d e ms rest hd he hm hr = omega arith
depth_at n Greater k l d e ms rest hd he hm hr = omega arith

pub depth_put : (n : ℕ) (k : List ℕ) (d : Data) (ms : Members) → depth d ≤ n → members_depth ms ≤ n → members_depth (put k d ms) ≤ n
depth_put n k d no_members hd hm = omega arith
depth_put n k d (member l e ms) hd hm =
    let first : depth e ≤ n = omega arith in
    let rest : members_depth ms ≤ n = omega arith in
    depth_at n (text_cmp k l) k l d e ms (put k d ms) hd first rest (depth_put n k d ms hd rest)
