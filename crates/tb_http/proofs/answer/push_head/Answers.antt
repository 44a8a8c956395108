use Rattle.std.proofs.Common.{◌≡◌, ◌++◌, List, ℕ, append_assoc, codes, decimal}
use Rattle.tb_http.specs.Answer.{answer_head, status_line, field_line, type_text, allow_line, policy_lines, connection_text}
use Rattle.tb_http.proofs.answer.push_head.Goals as goal

in_line : (start status kind size allow policy connection last a b c d e f g : List ℕ)
    → a ≡ start ++ status → b ≡ a ++ kind → c ≡ b ++ size → d ≡ c ++ allow → e ≡ d ++ policy → f ≡ e ++ connection → g ≡ f ++ last
    → g ≡ start ++ (status ++ (kind ++ (size ++ (allow ++ (policy ++ (connection ++ last))))))
in_line start status kind size allow policy connection last a b c d e f g p q r s t u v = rw (v, u, t, s, r, q, p) (simp append_assoc)

pub returns-clause-items : goal.returns-clause-items
unfolding answer_head
returns-clause-items c =
    let kind = rw c.type_of.ensures.value at c.push_field.ensures.items in
    let connection = rw c.connection_of.ensures.value at c.push_field-2.ensures.items in
    in_line c.args.head.now.items (status_line c.args.answer.status) (field_line (codes "content-type") (type_text c.args.answer.content_type))
    (field_line (codes "content-length") (decimal c.args.size)) (allow_line c.args.answer.allow)
    (policy_lines c.args.answer.content_type)
    (field_line (codes "connection") (connection_text c.args.answer.is_last)) (codes "\r\n") _ _ _ _ _ _ _
    c.push_status.ensures.items kind c.push_length.ensures.items c.push_allow.ensures.items c.push_policy.ensures.items connection c.push.ensures.items
