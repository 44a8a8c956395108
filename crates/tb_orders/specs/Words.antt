-- Which order the words are that the program was started with.
use Rattle.std.specs.Prelude.{◌≡◌, ◌⊎◌, ◌∷◌, Bool, true, false, List, None, Ok, Err, Option, Result, Some, codes, drop, map, ℕ}
use Rattle.std.specs.List.{list_all, list_any}
use Rattle.std.specs.Str.{bytes_eq}
use Rattle.std.specs.String.{string_bytes}
use Rattle.std.specs.declared.alloc.Global.{Global}
use Rattle.std.specs.declared.string.String.{String}
use Rattle.tb_command_line.specs.Extra.{with_extra, without_extra}
use Rattle.tb_command_line.specs.Order.{Request, is_plain, order_of, texts_of, words_of}
use Rattle.tb_command_line.specs.Sending.{my_of, send_of, told_of}
use Rattle.tb_command_line.specs.declared.order.Order.{Order}
use Rattle.tb_orders.specs.Telling.{ReadsAs}
use Rattle.tb_program.specs.declared.fault.Fault.{Fault}
use Rattle.tb_program.specs.declared.fault.Fault.TheVariants.{Memory}

-- a word stands for the key that is kept elsewhere
abbrev pub has_dash : List (String Global) → Bool
has_dash words = list_any (λ (word : String Global). bytes_eq (string_bytes word) (codes "-")) words

-- the order of words, with the key that is kept elsewhere
pub record IsOrderOf (kept : Option (List ℕ)) (words : List (List ℕ)) (read : Result Order Fault)
    : Type 0 where
  pub order : (request : Request) → without_extra words ≡ words_of request
      → list_all is_plain (texts_of request) ≡ true
      → ReadsAs read (with_extra words (order_of kept request))
  pub told : (order : Order) → told_of words ≡ Some order → read ≡ Ok order
  pub sent : (rest : List (List ℕ)) → words ≡ codes "send" ∷ rest
      → told_of (codes "send" ∷ rest) ≡ None → ReadsAs read (send_of rest)
  pub mine : (rest : List (List ℕ)) → words ≡ codes "my" ∷ rest
      → told_of (codes "my" ∷ rest) ≡ None → ReadsAs read (my_of rest)

-- It is looked for where a word stands for it.
abbrev pub IsKeptFor : {S : Type 0} → (S → Option (List ℕ) → Type 0) → S → Bool → Option (List ℕ)
    → Type 0
IsKeptFor keeps started true kept = keeps started kept
IsKeptFor keeps started false kept = kept ≡ None

module _ {S : Type 0} (gives : S → List (String Global) → Type 0) (hides : S → Fault → Type 0)
    (keeps : S → Option (List ℕ) → Type 0) where
  pub record IsRead (started : S) (read : Result Order Fault) : Type 0 where
    pub words : List (String Global)
    pub given : gives started words
    pub kept : Option (List ℕ)
    pub is_kept : IsKeptFor keeps started (has_dash (drop 1 words)) kept
    pub is : IsOrderOf kept (map string_bytes (drop 1 words)) read

  -- The first word names the program. Or the words can't be told, or there was no memory for them.
  abbrev pub IsReadOf : S → Result Order Fault → Type 0
  IsReadOf started read = IsRead started read
      ⊎ ((fault : Fault) × hides started fault × (read ≡ Err fault))
      ⊎ (read ≡ Err Memory)
