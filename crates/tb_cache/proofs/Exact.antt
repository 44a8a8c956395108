-- What boards at hand are after a change, whatever world they are of.
use Rattle.std.proofs.Common.{◌≡◌, ◌≢◌, ◌≤◌, ◌<◌, ◌+◌, ◌-◌, ℕ, false, List, [], ◌∷◌, length, get_or, drop, cond, Option, Some, None, nat_eq, refl, sym, ap, ◌∙◌, subst, inl, inr, arith, option_map}
use Rattle.std.specs.Prelude.{Result, Ok, Err, OnOk, OnErr}
use Rattle.std.specs.Result.{result_and}
use Rattle.std.specs.Map.{keys_of, lookup, lookup_entry, remove_entry}
use Rattle.std.specs.List.{IsDistinct}
use Rattle.std.specs.Option.{option_map_or}
use Rattle.std.specs.Cmp.{nat_eq_equiv}
use Rattle.std.proofs.lemmas.Bool.{cases_Bool, eqb-true, eq-eqb}
use Rattle.std.proofs.lemmas.List.{drop_more, take_all}
use Rattle.std.proofs.lemmas.Map.{lookup-remove_entry}
use Rattle.lru.specs.LruCache.{LruCache, IsValid, lru_cache, promoted, put_entries}
use Rattle.lru.proofs.CallerLemmas.{Contains-lookup_entry, lookup-put_entries}
use Rattle.lru.proofs.Pairs.{lookup-lookup_entry}
use Rattle.tb_board.specs.declared.board.Board.{Board}
use Rattle.tb_board.specs.declared.change.Change.{Change}
use Rattle.tb_board.specs.Changing.{changed_on}
use Rattle.tb_cache.specs.Following.{touched, changed_at, followed, followed_by}

apart_tests : (n m : ℕ) → Some n ≢ Some m → nat_eq m n ≡ false
apart_tests n m apart = elim (cases_Bool (nat_eq m n)) [
  | inl same ↦ absurd (apart (ap Some (sym (eqb-true m n same))))
  | inr other ↦ other
]

without : (n q : ℕ) (es : List (ℕ × Board)) → IsDistinct nat_eq (keys_of es) → lookup (nat_eq q) (remove_entry (nat_eq n) es) ≡ cond (nat_eq n q) None (lookup (nat_eq q) es)
without n q es distinct = lookup-remove_entry nat_eq_equiv (nat_eq n) (λ x y t. ap (λ z. nat_eq z y) (eqb-true n x t)) q es distinct

-- the others are still there
pub others_removed : (n m : ℕ) (es : List (ℕ × Board)) → IsDistinct nat_eq (keys_of es) → Some n ≢ Some m → lookup (nat_eq m) (remove_entry (nat_eq n) es) ≡ lookup (nat_eq m) es
others_removed n m es distinct apart = without n m es distinct ∙ ap (λ t. cond t None (lookup (nat_eq m) es)) (apart_tests m n (λ same. apart (sym same)))

none_left : (n : ℕ) (es : List (ℕ × Board)) → IsDistinct nat_eq (keys_of es) → lookup (nat_eq n) (remove_entry (nat_eq n) es) ≡ None
none_left n es distinct = without n n es distinct ∙ ap (λ t. cond t None (lookup (nat_eq n) es)) (eq-eqb n n refl)

no_entry : (o : Option (ℕ × Board)) → option_map (λ (e : ℕ × Board). e.1) o ≡ None → o ≡ None
no_entry None is = refl
no_entry (Some e) is = absurd (cc)

-- the boards that a change doesn't touch are there as before
abbrev pub AreOthers : Change → LruCache ℕ Board → LruCache ℕ Board → Type 0
AreOthers c new old = (m : ℕ) → touched c ≢ Some m → lookup (nat_eq m) new.entries ≡ lookup (nat_eq m) old.entries

found_promoted : (n : ℕ) (es : List (ℕ × Board)) (o : Option (ℕ × Board)) → lookup_entry (nat_eq n) es ≡ o → lookup (nat_eq n) (option_map_or (λ e. e ∷ remove_entry (nat_eq n) es) o es) ≡ lookup (nat_eq n) es
found_promoted n es None is = refl
found_promoted n es (Some e) is =
    let here = (Contains-lookup_entry (nat_eq n) es e is).1 in
    rw here (ap (option_map (λ (f : ℕ × Board). f.1)) (sym is) ∙ lookup-lookup_entry (nat_eq n) es)

-- the last used one is still there
pub promoted_there : (n : ℕ) (es : List (ℕ × Board)) → lookup (nat_eq n) (promoted (nat_eq n) es) ≡ lookup (nat_eq n) es
promoted_there n es = found_promoted n es (lookup_entry (nat_eq n) es) refl

-- one that was put is there
pub put_there : {R E : Type 0} (r : Result R E) (old new : LruCache ℕ Board) (n : ℕ) (b : Board) → OnOk r (new ≡ lru_cache (put_entries nat_eq old n b) old.cap) → OnOk r (lookup (nat_eq n) new.entries ≡ Some b)
put_there (Err x) old new n b put = tt
put_there (Ok x) old new n b put = ap (λ (k : LruCache ℕ Board). lookup (nat_eq n) k.entries) put ∙ lookup-put_entries nat_eq old n b nat_eq_equiv

-- one that isn't there isn't taken out
pub none_removed : (n : ℕ) (es : List (ℕ × Board)) → lookup (nat_eq n) es ≡ None → remove_entry (nat_eq n) es ≡ es
none_removed n [] none = refl
none_removed n (e ∷ es) none = elim (cases_Bool (nat_eq n e.0)) [
  | inl here ↦ let is : Some e.1 ≡ None = rw here at none in absurd (cc)
  | inr past ↦ rw past (ap (λ l. e ∷ l) (none_removed n es (rw past at none)))
]

one_less : (n : ℕ) (es : List (ℕ × Board)) (b : Board) → lookup (nat_eq n) es ≡ Some b → length (remove_entry (nat_eq n) es) + 1 ≡ length es
one_less n [] b found = absurd (cc)
one_less n (e ∷ es) b found = elim (cases_Bool (nat_eq n e.0)) [
  | inl here ↦ rw here (omega arith)
  | inr past ↦ let later = one_less n es b (rw past at found) in rw past (omega (arith, later))
]

-- one that was taken out is put back as the first
pub put_back : (n : ℕ) (c : LruCache ℕ Board) (b later : Board) → IsValid nat_eq c → lookup (nat_eq n) c.entries ≡ Some b
    → put_entries nat_eq (lru_cache (remove_entry (nat_eq n) c.entries) c.cap) n later ≡ (n, later) ∷ remove_entry (nat_eq n) c.entries
put_back n c b later valid found =
    let left = remove_entry (nat_eq n) c.entries in
    let none : lookup_entry (nat_eq n) left ≡ None = no_entry _ (lookup-lookup_entry (nat_eq n) left ∙ none_left n c.entries valid.0) in
    let less = one_less n c.entries b found in
    let few = valid.1 in
    let fits : length left ≤ c.cap - 1 = omega arith in
    rw none (ap (λ l. (n, later) ∷ l) (take_all (c.cap - 1) left fits))

module _ (c : Change) (n : ℕ) (old mid new : LruCache ℕ Board) (one : touched c ≡ Some n) (taken : mid ≡ lru_cache (remove_entry (nat_eq n) old.entries) old.cap) (valid : IsValid nat_eq old) where
  -- nothing was at hand that the change touches
  pub all_absent : lookup (nat_eq n) old.entries ≡ None → mid.entries ≡ followed_by old.entries c
  all_absent none =
      ap (λ (k : LruCache ℕ Board). k.entries) taken ∙ none_removed n old.entries none
      ∙ sym (ap (changed_at old.entries c) one ∙ ap (λ o. option_map_or (λ b. (n, changed_on b c) ∷ remove_entry (nat_eq n) old.entries) o old.entries) none)

  pub others_left : (m : ℕ) → touched c ≢ Some m → lookup (nat_eq m) mid.entries ≡ lookup (nat_eq m) old.entries
  others_left m apart = ap (λ (k : LruCache ℕ Board). lookup (nat_eq m) k.entries) taken ∙ others_removed n m old.entries valid.0 (λ same. apart (one ∙ same))

  module _ (b later : Board) (found : Some b ≡ lookup (nat_eq n) old.entries) (is : later ≡ changed_on b c) where
    put_is : (k : LruCache ℕ Board) → k ≡ lru_cache (put_entries nat_eq mid n later) mid.cap → k.entries ≡ (n, later) ∷ remove_entry (nat_eq n) old.entries
    put_is k put =
        ap (λ (k : LruCache ℕ Board). k.entries) put ∙ ap (λ k. put_entries nat_eq k n later) taken ∙ put_back n old b later valid (sym found)

    -- what it touches goes first
    pub all_followed : {R E : Type 0} (r : Result R E) → OnOk r (new ≡ lru_cache (put_entries nat_eq mid n later) mid.cap) → OnOk r (new.entries ≡ followed_by old.entries c)
    all_followed (Err x) put = tt
    all_followed (Ok x) put =
        put_is new put ∙ ap (λ x. (n, x) ∷ remove_entry (nat_eq n) old.entries) is
        ∙ sym (ap (changed_at old.entries c) one ∙ ap (λ o. option_map_or (λ b. (n, changed_on b c) ∷ remove_entry (nat_eq n) old.entries) o old.entries) (sym found))

    pub others_followed : {R E : Type 0} (r : Result R E) → OnOk r (new ≡ lru_cache (put_entries nat_eq mid n later) mid.cap) → OnErr r (new ≡ mid)
        → (m : ℕ) → touched c ≢ Some m → lookup (nat_eq m) new.entries ≡ lookup (nat_eq m) old.entries
    others_followed (Err x) put same m apart = ap (λ (k : LruCache ℕ Board). lookup (nat_eq m) k.entries) same ∙ others_left m apart
    others_followed (Ok x) put same m apart =
        ap (lookup (nat_eq m)) (put_is new put) ∙ ap (λ t. cond t (Some later) (lookup (nat_eq m) (remove_entry (nat_eq n) old.entries))) (apart_tests n m (λ same. apart (one ∙ same)))
        ∙ others_removed n m old.entries valid.0 (λ same. apart (one ∙ same))

module _ {T E : Type 0} (ended one new : Result T E) (es later start : List (ℕ × Board)) (cs : List Change) (i : ℕ) (c : Change) (within : i < length cs) (is : c ≡ get_or cs i c) where
  -- one change more was followed
  pub all_more : new ≡ result_and ended one → OnOk ended (followed es (drop i cs) ≡ followed start cs) → OnOk one (later ≡ followed_by es c)
      → OnOk new (followed later (drop (i + 1) cs) ≡ followed start cs)
  all_more both was step = subst (λ r. OnOk r (followed later (drop (i + 1) cs) ≡ followed start cs)) (sym both) (go ended one was step)
    where
      go : (a b : Result T E) → OnOk a (followed es (drop i cs) ≡ followed start cs) → OnOk b (later ≡ followed_by es c)
          → OnOk (result_and a b) (followed later (drop (i + 1) cs) ≡ followed start cs)
      go (Err x) b first later_is = tt
      go (Ok x) (Err y) first later_is = tt
      go (Ok x) (Ok y) first later_is =
          ap (λ l. followed l (drop (i + 1) cs)) later_is
          ∙ sym (ap (followed es) (drop_more cs i c within ∙ ap (λ x. x ∷ drop (i + 1) cs) (sym is)))
          ∙ first
