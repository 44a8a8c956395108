use Rattle.tb_http.proofs.OpenHeadLemmas.{empty_leads, field_leads, request_line_leads}
use Rattle.tb_http.proofs.open_head.read_line.Goals as goal

pub returns-in-Ok-Partial : goal.returns-in-Ok-Partial
returns-in-Ok-Partial c =
    let none = rw c.in-Ok-Partial.field-0-is at c.in-Ok-Partial.ensures.partial in
    let may = rw c.in-Ok-Partial.field-0-is at c.in-Ok-Partial.ensures.unfinished in
    rw c.if-is_in_fields.true (field_leads c.args.line.now c.requires none may)

pub returns-then-is_empty_line : goal.returns-then-is_empty_line
returns-then-is_empty_line c =
    let end = c.is_empty_line.ensures.empty c.if-is_empty_line.true in
    rw c.if-is_in_fields.false (empty_leads c.args.line.now end.0 c.requires end.1)

pub returns-in-Ok-Partial-parse_request : goal.returns-in-Ok-Partial-parse_request
returns-in-Ok-Partial-parse_request c =
    let may = rw c.in-Ok-Partial-parse_request.field-0-is at c.in-Ok-Partial-parse_request.ensures.unfinished in
    rw c.if-is_in_fields.false (request_line_leads c.args.line.now c.requires (c.is_empty_line.ensures.full c.if-is_empty_line.false) may)
