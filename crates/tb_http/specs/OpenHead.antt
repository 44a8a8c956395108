-- A head that is not whole yet, judged line by line.
use Rattle.std.specs.Prelude.{◌≡◌, ◌≢◌, ℕ, ◌<◌, ◌≤◌, Bool, true, false, List, [], ◌∷◌, ◌++◌, length, take, slice_index, All}
use Rattle.httparse.specs.Grammar.{Field, LineEnd, RequestHead, ReadsRequest, ReadsSection}
use Rattle.tb_http.specs.declared.open_head.OpenHead.{OpenHead}
use Rattle.tb_http.specs.Head.{line_feed}

-- no byte ends a line
abbrev pub HasNoFeed : List ℕ → Type 0
HasNoFeed bytes = All (λ b. b ≢ line_feed) bytes

-- one line, with the line feed that ends it
pub record IsLine (bytes : List ℕ) : Type 0 where
  pub word : List ℕ
  pub ends : bytes ≡ word ++ line_feed ∷ []
  pub one : HasNoFeed word

-- the bytes begin with a head (false), or with what is left of one behind its request line (true)
abbrev pub ReadsOn : Bool → List ℕ → List ℕ → Type 0
ReadsOn false bytes rest = (head : RequestHead) × ReadsRequest bytes head rest
ReadsOn true bytes rest = (fields : List Field) × (last : LineEnd)
    × ReadsSection bytes fields last rest

-- with this front the bytes are one of these just where without it they are the other
pub record Leads (before after : Bool) (front : List ℕ) : Type 0 where
  pub forth : (bytes rest : List ℕ) → ReadsOn before (front ++ bytes) rest
      → ReadsOn after bytes rest
  pub back : (bytes rest : List ℕ) → ReadsOn after bytes rest → ReadsOn before (front ++ bytes) rest

-- the lines before the last one are those of a head, and the last one has no end so far
pub record IsOpenHead (bytes : List ℕ) (so_far : OpenHead) : Type 0 where
  pub ordered : so_far.line ≤ so_far.searched
  pub inside : so_far.searched ≤ length bytes
  pub front : Leads false so_far.is_in_fields (take so_far.line bytes)
  pub no_end : (k : ℕ) → so_far.line ≤ k → k < so_far.searched → slice_index bytes k ≢ line_feed
