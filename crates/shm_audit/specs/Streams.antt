-- what an audit knows of the words of a pool that came so far
use Rattle.std.specs.Prelude.{◌≡◌, ℕ, ◌+◌, ◌-◌, ◌%◌, ◌≤◌, true, ◌&&◌, nat_lt, List, slice_index, Option, Some, None}
use Rattle.shm_words.specs.{declared.geometry.Geometry.Geometry, Headers.header_of, Layout.{bodies, total_of}}
use Rattle.shm_graph.specs.Spots.{see, spot_at, classes_in, class_at}
use Rattle.shm_audit.specs.declared.{auditor.Auditor.Auditor, fault.ImageFault.ImageFault, tally.Tally.Tally}
use Rattle.shm_audit.specs.Faults.{first_fault, is_bad_header, is_bad_tag, words_fault_of}
use Rattle.shm_audit.specs.Tallies.{ArePages, NoneBelow, Tallied}
use Rattle.shm_audit.specs.declared.fault.ImageFault.TheVariants as fault

-- the page of this class begins at an address
pub record HasPage (g : Geometry) (ws : List ℕ) (a k : ℕ) : Type 0 where
  pub start : bodies g ≤ a
  pub end : a + 128 ≤ total_of g
  pub page : (a - bodies g) % 128 ≡ 0
  pub class : class_at g (classes_in g ws) a ≡ k

-- no page word and no header below n is at fault
pub record AreSound (g : Geometry) (ws : List ℕ) (n : ℕ) : Type 0 where
  pub pages : ArePages g ws
  pub heads : NoneBelow (λ a. is_bad_header g (see g ws) (spot_at g (classes_in g ws) a)) n

-- a header that isn't at fault, of a block with this count
pub record IsLawful (g : Geometry) (ws : List ℕ) (b n : ℕ) : Type 0 where
  pub header : ((header_of (slice_index ws b)).live && nat_lt (header_of (slice_index ws b)).client g.clients) ≡ true
  pub count : (header_of (slice_index ws b)).count ≡ n

-- and no tag, and this was found
pub record IsTallied (g : Geometry) (ws : List ℕ) (n : ℕ) (t : Tally) : Type 0 where
  pub sound : AreSound g ws n
  pub tags : NoneBelow (λ a. is_bad_tag g (see g ws) (spot_at g (classes_in g ws) a)) n
  pub found : Tallied g ws n t

-- the first page word or header at fault, or else the first tag at fault, or else what was found
abbrev pub SeenBy : Geometry → List ℕ → ℕ → Option ImageFault → Option ImageFault → Tally → Type 0
SeenBy g ws n (Some f) tag t = words_fault_of g ws ≡ Some f
SeenBy g ws n None (Some f) t = AreSound g ws n × (first_fault g ws is_bad_tag fault.BadTag ≡ Some f)
SeenBy g ws n None None t = IsTallied g ws n t

-- what an audit knows of the words below n
abbrev pub Seen : Geometry → List ℕ → ℕ → Auditor → Type 0
Seen g ws n a = SeenBy g ws n a.fault a.tag a.tally
