-- the header word of a block
use Rattle.std.specs.Prelude.{ℕ, ◌+◌, ◌*◌, ◌/◌, ◌%◌, ◌^◌, ◌<◌, Bool, true, false, nat_le}
use Rattle.shm_words.specs.declared.header.Header.{Header}

-- bit 63
abbrev pub live_bit : Bool → ℕ
live_bit true = 2 ^ 63
live_bit false = 0

-- the word of a header: bit 63 live, bits 57 to 62 client, bits 47 to 56 count, bits 0 to 46 era
unfoldable pub header_word : Header → ℕ
header_word h = live_bit h.live + h.client * 2 ^ 57 + h.count * 2 ^ 47 + h.era

-- the header that a word is
unfoldable pub header_of : ℕ → Header
header_of w =
    record {
      live = nat_le (2 ^ 63) w;
      client = w / 2 ^ 57 % 64;
      count = w / 2 ^ 47 % 1024;
      era = w % 2 ^ 47;
    }

-- the headers that have a word
pub record HeaderFits (h : Header) : Type 0 where
  pub client : h.client < 64
  pub count : h.count < 1024
  pub era : h.era < 2 ^ 47
