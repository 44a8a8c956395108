use Rattle.std.proofs.Common.{◌≡◌, ℕ, ◌-◌, min, ◌⊎◌, inl, inr, ◌∙◌, arith}
use Rattle.tb_timeouts.proofs.waiting.longest_wait.Goals as goal

min_is : (m n : ℕ) → (min m n ≡ m) ⊎ (min m n ≡ n)
min_is m n = grind arith

pub returns-in-Some : goal.returns-in-Some
returns-in-Some c = let first = c.in-Some.ensures.some in record {
  at_most = let is = c.until.ensures in omega (arith, is);
  before_each = λ place end at. let is = c.until.ensures in let no_later = first.no_earlier place end at in omega (arith, is, no_later);
  no_less =
      elim (min_is c.args.most (c.in-Some.first.moment - c.args.now)) [
        | inl whole ↦ inl (c.until.ensures ∙ whole)
        | inr part ↦ inr (c.in-Some.first.place, c.in-Some.first.moment, first.here, c.until.ensures ∙ part)
      ];
}
