-- Identifiers of version 4 (RFC 9562, section 5.4).
use Rattle.std.specs.Prelude.{ℕ, List, bit_and, bit_or, slice_index, slice_set}
use Rattle.std.specs.Int.{from_be_bytes, w128}

-- four bits of byte 6 are the version
abbrev pub with_version : List ℕ → List ℕ
with_version bytes = slice_set bytes 6 (bit_or (bit_and (slice_index bytes 6) 0x0f) 0x40)

-- two bits of byte 8 are the variant
abbrev pub with_variant : List ℕ → List ℕ
with_variant bytes = slice_set bytes 8 (bit_or (bit_and (slice_index bytes 8) 0x3f) 0x80)

abbrev pub random_id : List ℕ → ℕ
random_id bytes = from_be_bytes w128 (with_variant (with_version bytes))
