-- what the words of a pool below an address say of each place where a block may begin
use Rattle.std.specs.Prelude.{◌≡◌, ℕ, ◌+◌, ◌-◌, ◌*◌, ◌/◌, ◌%◌, ◌<◌, ◌≤◌, Bool, true, false, not, ◌&&◌, ◌==◌, nat_lt, nat_le, if◌then◌else◌, List, length, get_or, slice_index, Option, Some, None, MatchOption}
use Rattle.shm_words.specs.{declared.{geometry.Geometry.Geometry, header.Header.Header}, Classes.IsClass}
use Rattle.shm_words.specs.Layout.{bodies, pages, total_of}
use Rattle.shm_graph.specs.{declared.spot.Spot.TheVariants.Head, Spots.{see, spot_at, classes_in, class_at}}
use Rattle.shm_graph.specs.{Blocks.{IsBlock, IsLive, headers}, References.{sum_below, one_if, references}}
use Rattle.shm_audit.specs.declared.{tally.{Found.Found, Reference.Reference, Tally.Tally}, verdict.Verdict.Verdict}
use Rattle.shm_audit.specs.declared.verdict.Verdict.TheVariants.{Uncounted, WrongCount}
use Rattle.shm_audit.specs.Faults.{is_bad_reference, is_bad_tag, is_page_word}

-- ---- some of the words

-- the words from an address on are these
abbrev pub AreFrom : List ℕ → ℕ → List ℕ → Type 0
AreFrom ws first part = (k : ℕ) → k < length part → slice_index ws (first + k) ≡ slice_index part k

-- each page word is 0 or a class
abbrev pub ArePages : Geometry → List ℕ → Type 0
ArePages g ws = (a : ℕ) → pages g ≤ a → a < bodies g → is_page_word (slice_index ws a) ≡ true

-- ---- what the word at an address is

-- what it names
abbrev pub named : Geometry → List ℕ → ℕ → ℕ
named g ws a = references g.wide (see g ws) (spot_at g (classes_in g ws) a)

-- whether it names this address
abbrev pub names : Geometry → List ℕ → ℕ → ℕ → Bool
names g ws b a = named g ws a == b

-- there is neither a header other than 0 nor a tag at fault
pub record IsQuiet (g : Geometry) (ws : List ℕ) (a : ℕ) : Type 0 where
  pub header : see g ws (Head a) ≡ 0
  pub tag : is_bad_tag g (see g ws) (spot_at g (classes_in g ws) a) ≡ false

-- nor is there where this word stands, which names a block or nothing
pub record IsNaming (g : Geometry) (ws : List ℕ) (a word : ℕ) : Type 0 where
  pub quiet : IsQuiet g ws a
  pub names : named g ws a ≡ word

-- ---- places

-- how many places there are in the bodies of a pool, one for each 4 words
abbrev pub places_in : Geometry → ℕ
places_in g = 512 * g.segments

-- the address of a place
abbrev pub place_address : Geometry → ℕ → ℕ
place_address g q = bodies g + 4 * q

-- whether a place begins at this address
abbrev pub is_place : Geometry → ℕ → Bool
is_place g b = nat_le (bodies g) b && (((b - bodies g) % 4 == 0) && nat_lt ((b - bodies g) / 4) (places_in g))

-- whether the word at an address names something that isn't a place
abbrev pub strays : Geometry → List ℕ → ℕ → Bool
strays g ws a = not (named g ws a == 0) && not (is_place g (named g ws a))

-- a block of this class begins there
pub record HasBlock (g : Geometry) (ws : List ℕ) (b k : ℕ) : Type 0 where
  pub is : IsBlock g (classes_in g ws) b
  pub class : class_at g (classes_in g ws) b ≡ k
  pub sized : IsClass k

-- the header of a live block with this count stands there
pub record IsHead (g : Geometry) (ws : List ℕ) (b n : ℕ) : Type 0 where
  pub live : IsLive (headers (see g ws)) b
  pub count : (headers (see g ws) b).count ≡ n
  pub names : named g ws b ≡ 0
  pub place : is_place g b ≡ true

-- ---- what was found

-- none of the numbers below n passes the test
abbrev pub NoneBelow : (ℕ → Bool) → ℕ → Type 0
NoneBelow test n = (a : ℕ) → a < n → test a ≡ false

-- the least number that passes the test, which is below n
pub record IsLeast (test : ℕ → Bool) (n a : ℕ) : Type 0 where
  pub below : a < n
  pub passes : test a ≡ true
  pub least : NoneBelow test a

-- the count of a block, where it is live
abbrev pub count_in : Header → Option ℕ
count_in h = if h.live then Some h.count else None

-- what was found of the place at an address in the words below n
pub record IsFound (g : Geometry) (ws : List ℕ) (n b : ℕ) (f : Found) : Type 0 where
  pub times : f.times ≡ sum_below n (λ a. one_if (names g ws b a))
  pub namer : 0 < f.times → IsLeast (names g ws b) n f.namer
  pub count : f.count ≡ (if nat_lt b n then count_in (headers (see g ws) b) else None)

-- nothing
abbrev pub unseen : Found
unseen = record { times = 0; namer = 0; count = None }

-- the first word below n that strays, and what it names, if one does
abbrev pub IsStray : Geometry → List ℕ → ℕ → Option Reference → Type 0
IsStray g ws n stray = MatchOption stray (NoneBelow (strays g ws) n) (λ r. IsLeast (strays g ws) n r.at × (r.target ≡ named g ws r.at))

-- what was found in the words below n
pub record Tallied (g : Geometry) (ws : List ℕ) (n : ℕ) (t : Tally) : Type 0 where
  pub start : t.start ≡ bodies g
  pub places : length t.places.items ≡ places_in g
  pub found : (q : ℕ) → q < places_in g → IsFound g ws n (place_address g q) (get_or t.places.items q unseen)
  pub live : t.live ≡ sum_below n (λ b. one_if (headers (see g ws) b).live)
  pub refs : t.refs ≡ sum_below n (λ a. if named g ws a == 0 then 0 else 1)
  pub stray : IsStray g ws n t.stray

-- ---- what that says in the end

-- whether this is the count of a live block, and above 0
abbrev pub counts : Option ℕ → Bool
counts None = false
counts (Some count) = nat_lt 0 count

-- whether a place is named so often, and no live block with a count above 0 begins there
abbrev pub is_bad_place : ℕ → Option ℕ → Bool
is_bad_place times count = nat_lt 0 times && not (counts count)

-- what is wrong with the block that begins at a place, if one does and anything is
abbrev pub place_verdict : ℕ → Option ℕ → ℕ → Option Verdict
place_verdict times None b = None
place_verdict times (Some count) b = if count == 0 then Some (Uncounted b) else if count == times then None else Some (WrongCount b count times)

-- the one at the lower address of a word, if there is one, and of the word at this address, which names that
abbrev pub earlier : Option Reference → ℕ → ℕ → Option Reference
earlier None at target = Some (record { at = at; target = target })
earlier (Some r) at target = if nat_lt r.at at then Some r else Some (record { at = at; target = target })

-- the first reference at fault in all words, and the word there, if there is one
abbrev pub bad_at : Geometry → List ℕ → ℕ → Bool
bad_at g ws a = is_bad_reference g (see g ws) (spot_at g (classes_in g ws) a)

abbrev pub IsFirstBad : Geometry → List ℕ → Option Reference → Type 0
IsFirstBad g ws bad = MatchOption bad (NoneBelow (bad_at g ws) (total_of g)) (λ r. IsLeast (bad_at g ws) (total_of g) r.at × (r.target ≡ slice_index ws r.at))
