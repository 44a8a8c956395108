-- What is at hand after a look at the board of a number.
use Rattle.std.proofs.Common.{◌≡◌, ◌∙◌, ℕ, ◌∷◌, Option, None, Some, nat_eq, option_map, refl, sym, ap}
use Rattle.std.specs.Map.{lookup, lookup_entry, remove_entry}
use Rattle.lru.specs.LruCache.{LruCache, promoted}
use Rattle.lru.proofs.Pairs.{lookup-lookup_entry}
use Rattle.tb_board.specs.declared.board.Board.{Board}
use Rattle.tb_keeper.specs.Using.{used_at, IsUsed}

-- one that is at hand goes first, as if it were put there anew
pub first_again : (c : LruCache ℕ Board) (n : ℕ) (found : Option Board) → found ≡ lookup (nat_eq n) c.entries → promoted (nat_eq n) c.entries ≡ used_at c n found
first_again c n found is = by found (lookup_entry (nat_eq n) c.entries) (is ∙ sym (lookup-lookup_entry (nat_eq n) c.entries)) refl
  where
    by : (o : Option Board) (e : Option (ℕ × Board)) → o ≡ option_map (λ (f : ℕ × Board). f.1) e → lookup_entry (nat_eq n) c.entries ≡ e → promoted (nat_eq n) c.entries ≡ used_at c n o
    by None None same here = rw here refl
    by None (Some e) same here = absurd (cc)
    by (Some b) None same here = absurd (cc)
    by (Some b) (Some e) same here =
        let value : b ≡ e.1 = cc in
        rw here (ap (λ v. (e.0, v) ∷ remove_entry (nat_eq n) c.entries) (sym value))

-- no board need be looked at
pub unused : (old : LruCache ℕ Board) (number : Option ℕ) → IsUsed old number old.entries
unused old None = (None, refl)
unused old (Some n) = (None, refl)
