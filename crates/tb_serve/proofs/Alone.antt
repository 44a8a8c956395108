-- One connection alone.
use Rattle.std.proofs.Common.{◌≡◌, ℕ, ◌+◌, true, false, true≢false, List, [], ◌∷◌, ◌++◌, refl, sym, ap}
use Rattle.std.specs.Prelude.{◌==◌}
use Rattle.tb_serve.specs.Turns.{Event, opened, came, gone, took, failed, refused, rested, went, Happening, Serving, Step, AllAt, AllWell, goes_well, taken_on, texts, told_on}

alone_step : {S A M : Type 0} (v : Serving S A M) (c : ℕ) (s : S) (before : ℕ) (h : Happening A) (d : ℕ) (e : Event M) (ks : List (Step A M))
    → (d == c) ≡ true → goes_well e ≡ true
    → ((t : S) (n : ℕ) → told_on v c t n ks ≡ texts v t n (taken_on c ks))
    → told_on v c s before (record { place = d; happening = h; event = e } ∷ ks)
    ≡ texts v s before (taken_on c (record { place = d; happening = h; event = e } ∷ ks))
alone_step v c s before h d opened ks at well more = rw at (more s before)
alone_step v c s before h d (came piece) ks at well more = rw at (more s before)
alone_step v c s before h d gone ks at well more = absurd (true≢false (sym well))
alone_step v c s before h d (took m true) ks at well more = rw at (ap (λ text. v.text s before m ++ text) (more (v.after s m) (before + 1)))
alone_step v c s before h d (took m false) ks at well more = absurd (true≢false (sym well))
alone_step v c s before h d (failed m text is_whole) ks at well more = absurd (true≢false (sym well))
alone_step v c s before h d (refused text is_whole) ks at well more = absurd (true≢false (sym well))
alone_step v c s before h d rested ks at well more = rw at (more s before)
alone_step v c s before h d (went front) ks at well more = rw at (more s before)

-- where all is of one connection, and goes well, it is told what its messages are told in a row
pub alone : {S A M : Type 0} (v : Serving S A M) (c : ℕ) (s : S) (before : ℕ) (ks : List (Step A M)) → AllAt c ks → AllWell ks
    → told_on v c s before ks ≡ texts v s before (taken_on c ks)
alone v c s before [] at well = refl
alone v c s before (k ∷ ks) at well =
    alone_step v c s before k.happening k.place k.event ks at.0 well.0 (λ t n. alone v c t n ks at.1 well.1)
