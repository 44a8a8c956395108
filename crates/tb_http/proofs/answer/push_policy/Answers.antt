use Rattle.std.proofs.Common.{◌≡◌, ◌++◌, List, ℕ, append_assoc, codes, ap, sym, ◌∙◌}
use Rattle.tb_http.specs.Answer.{content_policy, field_line, policy_lines}
use Rattle.tb_http.proofs.answer.push_policy.Goals as goal

in_line : (start first second third fourth a b c d : List ℕ)
    → a ≡ start ++ first → b ≡ a ++ second → c ≡ b ++ third → d ≡ c ++ fourth
    → d ≡ start ++ (first ++ (second ++ (third ++ fourth)))
in_line start first second third fourth a b c d p q r s = rw (s, r, q, p) (simp append_assoc)

pub returns-in-File-clause-items : goal.returns-in-File-clause-items
returns-in-File-clause-items c =
    in_line c.args.head.now.items (field_line (codes "cache-control") (codes "no-cache"))
    (field_line (codes "content-security-policy") content_policy) (field_line (codes "referrer-policy") (codes "no-referrer"))
    (field_line (codes "x-content-type-options") (codes "nosniff")) _ _ _ _
    c.push_field.ensures.items c.push_content_policy.ensures.items c.push_field-in-File.ensures.items c.push_field-in-File-2.ensures.items
    ∙ ap (λ t. c.args.head.now.items ++ policy_lines t) (sym c.in-File.is)
