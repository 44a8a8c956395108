-- Boards at hand are those of a world.
use Rattle.std.proofs.Common.{◌≡◌, inl, inr, ℕ, Bool, true, List, [], ◌∷◌, Some, None, false, Contains, nat_eq, true≢false, sym, ap, ◌∙◌, subst, ⊎_elim}
use Rattle.std.proofs.lemmas.Bool.{eqb-true}
use Rattle.std.specs.Map.{keys_of, lookup, remove_entry}
use Rattle.std.specs.Prelude.{IsSome, Option, cond, Result, Ok, Err, OnOk, OnErr}
use Rattle.std.specs.List.{IsDistinct}
use Rattle.std.specs.Cmp.{nat_eq_equiv}
use Rattle.lru.proofs.Splits.{Contains-cons, Contains-head, Contains-nil, Contains-tail}
use Rattle.std.proofs.lemmas.Bool.{cases_Bool, eq-eqb}
use Rattle.std.proofs.lemmas.Map.{lookup-remove_entry}
use Rattle.std.proofs.lemmas.Map.Views.{IsSome-lookup_from_Contains}
use Rattle.lru.specs.LruCache.{LruCache, lru_cache, put_entries, promoted}
use Rattle.lru.proofs.CallerLemmas.{Contains-promoted, Contains-put_entries, Contains-remove_entry, IsPut}
use Rattle.tb_board.specs.declared.board.Board.{Board}
use Rattle.tb_board.specs.declared.world.World.{World}
use Rattle.tb_board.specs.World.{find_board}
use Rattle.tb_cache.specs.BoardCache.{AreOf}

pub of_promoted : (w : World) (test : ℕ → Bool) (es : List (ℕ × Board)) → AreOf w es → AreOf w (promoted test es)
of_promoted w test es are e there = are e (Contains-promoted test es e there)

pub of_removed : (w : World) (test : ℕ → Bool) (es : List (ℕ × Board)) → AreOf w es → AreOf w (remove_entry test es)
of_removed w test es are e there = are e (Contains-remove_entry test es e there)

pub of_put : (w : World) (c : LruCache ℕ Board) (k : ℕ) (b : Board) → AreOf w c.entries → find_board w k ≡ Some b → AreOf w (put_entries nat_eq c k b)
of_put w c k b are found e there = ⊎_elim (are e) put (Contains-put_entries nat_eq c k b e there)
  where
    under : e.0 ≡ k → e.1 ≡ b → find_board w e.0 ≡ Some e.1
    under key value = ap (find_board w) key ∙ found ∙ ap Some (sym value)

    put : IsPut nat_eq c k b e → find_board w e.0 ≡ Some e.1
    put (value, inl key) = under key value
    put (value, inr (old, was, same)) = under (sym (eqb-true k e.0 same)) value

among_keys : (es : List (ℕ × Board)) (e : ℕ × Board) → Contains es e → Contains (keys_of es) e.0
among_keys [] e there = absurd (Contains-nil e there)
among_keys (f ∷ es) e there = elim (Contains-cons f es e there) [
  | inl same ↦ subst (λ (g : ℕ × Board). Contains (f.0 ∷ keys_of es) g.0) same (Contains-head f.0 (keys_of es))
  | inr later ↦ Contains-tail f.0 (keys_of es) e.0 (among_keys es e later)
]

is_none : (o : Option Board) → o ≡ None → IsSome o → ⊥
is_none o none some = true≢false (sym (subst (IsSome {T = Board}) none some))

-- what is left has other keys
pub apart_removed : (n : ℕ) (es : List (ℕ × Board)) → IsDistinct nat_eq (keys_of es) → (e : ℕ × Board) → Contains (remove_entry (nat_eq n) es) e → nat_eq e.0 n ≡ false
apart_removed n es distinct e there =
    elim (cases_Bool (nat_eq e.0 n)) [
      | inl same ↦
          let key : e.0 ≡ n = eqb-true e.0 n same in
          let some = IsSome-lookup_from_Contains nat_eq_equiv e.0 (remove_entry (nat_eq n) es) (among_keys _ e there) in
          let none = lookup-remove_entry nat_eq_equiv (nat_eq n) (λ x y t. ap (λ z. nat_eq z y) (eqb-true n x t)) e.0 es distinct in
          let here : nat_eq n e.0 ≡ true = eq-eqb n e.0 (sym key) in
          let gone : lookup (nat_eq e.0) (remove_entry (nat_eq n) es) ≡ None = none ∙ ap (λ t. cond t None (lookup (nat_eq e.0) es)) here in
          absurd (is_none _ gone some)
      | inr apart ↦ apart
    ]

pub of_put_if : (w : World) (old new : LruCache ℕ Board) (k : ℕ) (b : Board) {R E : Type 0} (r : Result R E) → OnOk r (new ≡ lru_cache (put_entries nat_eq old k b) old.cap) → OnErr r (new ≡ old)
    → AreOf w old.entries → find_board w k ≡ Some b → AreOf w new.entries
of_put_if w old new k b (Ok x) ok err are found = subst (λ (c : LruCache ℕ Board). AreOf w c.entries) (sym ok) (of_put w old k b are found)
of_put_if w old new k b (Err x) ok err are found = subst (λ (c : LruCache ℕ Board). AreOf w c.entries) (sym err) are
