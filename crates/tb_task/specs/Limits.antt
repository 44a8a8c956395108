-- The limits of the product.
use Rattle.std.specs.Prelude.{ℕ}

-- the most tasks of a board, and the most people and boards of a world
-- Rule: a board has 10,000 tasks at most. Refused as Full. Tried by full_board.
abbrev pub most_tasks : ℕ
most_tasks = 10000

-- Rule: a file has 10,000 people at most. Refused as Full. Tried by no test.
abbrev pub most_people : ℕ
most_people = 10000

-- Rule: a file has 10,000 boards at most. Refused as Full. Tried by no test.
abbrev pub most_boards : ℕ
most_boards = 10000

-- the most bytes of a text of a task, and of the mask of a template
-- Rule: a text has 16,384 bytes at most. Refused as BadTask. Tried by tasks.
abbrev pub longest_text : ℕ
longest_text = 16384

-- the most items of an import: tasks, or lines that aren't skipped
-- Rule: an import has at most 1,000 items. Refused as BadBody. Tried by thousand_todo_lines.
abbrev pub most_items : ℕ
most_items = 1000

-- the most bytes of the body of a message, and of the line of a script
-- Rule: a body has 1,048,576 bytes at most. Refused as BodyTooLong. Tried by body_too_long.
abbrev pub longest_body : ℕ
longest_body = 1048576

-- the most instances that a template gets at once
-- Rule: a sweep adds at most 64 instances of a template. Tried by instances_after_a_gap.
abbrev pub most_at_once : ℕ
most_at_once = 64
