-- reading what a key has and giving it a root as a plan: what is known before each call, and what is left
pub mod Control
use Rattle.std.specs.Prelude.{◌≡◌, ◌≢◌, ℕ, ◌+◌, ◌*◌, ◌<◌, true, false, Option, Some, None, List, [], ◌∷◌, Bool}
use Rattle.std.specs.List.{Contains}
use Rattle.shm_words.specs.Layout.{address_limit}
use Rattle.shm_graph.specs.declared.{ask.Me.Me, memo.Memo.Memo, spot.Spot.TheVariants.{Body, Home, Root}}
use Rattle.shm_graph.specs.{Agents.recovers, Asks.{Trail, IsWithin}, Bounds.up_steps, Events.Event, Idle.IsIdle}
use Rattle.shm_graph.specs.{Reach.is_reached, Views.own_word}
use Rattle.shm_graph.specs.Events as event
use Rattle.plans.specs.{declared.word.Word.Word, CallsPart.calls_part, Either.or_part, Parts.{IsHeld, Part}}
use Rattle.plans.specs.{Plans.Planned, Words.{word_control, word_part}}
use Rattle.kind_parts.specs.{Reparting.{sight, map_in, IsValue}, WordParts.{ReferenceLoaded, WordLoaded}}
use Rattle.shm_count.specs.{Roots.root_word, UpRoot.AsPart.up_root_part}
use Rattle.shm_ref.specs.AskedParts.{asked_part}
use Rattle.shm_table.specs.declared.{answer.PutFault.PutFault, fetch.FetchPoint.FetchPoint}
use Rattle.shm_table.specs.declared.fetch.FetchPoint.TheVariants.{Search, Value, Number, Share, Give}
use Rattle.shm_table.specs.declared.fetch.{FetchState.FetchState, Fetched.Fetched}
use Rattle.shm_table.specs.declared.{fetch.Fetched.TheVariants.{Missing, Refused, Rooted}, get.GetPoint.GetPoint}
use Rattle.shm_table.specs.declared.get.GetState.{GetState}
use Rattle.shm_table.specs.Fetch.Control.{FetchCall, FetchAnswer, fetch_ask, is_search, fetch_steered}
use Rattle.shm_table.specs.{Get.{GetKnows, GotNone, IsNowhere, IsReading, IsTold}, Locate.Control.locate_parts}
use Rattle.shm_table.specs.{Locate.{MayLocate, locate_plan}, PutRoot.HasSearch}
use Rattle.shm_table.specs.{Staying.{Cleared, Keeps, PutCause, SameMap}, Unlatch.unlatch_plan}
use Rattle.shm_table.specs.declared.get.GetPoint.TheVariants as get

-- ---- when it may begin

-- as where the key is only read, by a client
pub record MayFetch (me : Me) (a : ℕ) (r : Memo) : Type 0 where
  pub locate : MayLocate me a r
  pub client : recovers r ≡ false

-- ---- on the way

-- what a reading of the key knows at this point
abbrev pub got : FetchState → GetPoint → GetState
got m y = record { me = m.me; author = m.author; key = m.key; entry = m.entry; block = m.block; number = m.number; point = y }

-- the identity holds the latch between two calls, the search was made, and so many word steps at most besides
pub record IsOn (me : Me) (a key steps : ℕ) (r : Memo) (tr : Trail) : Type 0 where
  pub idle : IsIdle me.who r
  pub client : recovers r ≡ false
  pub keys : ℕ
  pub search : HasSearch me a key keys tr
  pub bound : IsWithin (steps + 2 * keys) tr

-- the value block that the key has got no root for this reason, and this latch is held or none
pub record IsUnrooted (me : Me) (a key : ℕ) (f : PutFault) (taken : Option ℕ) (steps : ℕ) (r0 r : Memo) (tr : Trail) (es : List Event) : Type 0 where
  pub may : MayFetch me a r0
  pub keeps : Keeps me.who r0 r
  pub holds : IsHeld me r
  pub latch : r.latch ≡ taken
  pub home : own_word r.own (Home me.who) ≡ own_word r0.own (Home me.who)
  pub map : SameMap r0 r
  pub cause : PutCause me r0 r f
  pub has : a ≡ me.who → (n : ℕ) × (v : ℕ) × (map_in r0.part key ≡ Some (n, v))
  pub cleared : Cleared me.who r0 r
  pub none : es ≡ []
  pub keys : ℕ
  pub search : HasSearch me a key keys tr
  pub bound : IsWithin (steps + 2 * keys) tr

-- Root k, which was empty, names the value block v with the number n, which the entry of the key had: q is the memo before the root was set, under the latch of a. In the own table the map has them at the key. This latch is held or none
pub record IsRooted (me : Me) (a key k v n : ℕ) (taken : Option ℕ) (steps : ℕ) (r0 r : Memo) (tr : Trail) (es : List Event) : Type 0 where
  pub may : MayFetch me a r0
  pub keeps : Keeps me.who r0 r
  pub holds : IsHeld me r
  pub client : recovers r ≡ false
  pub latch : r.latch ≡ taken
  pub home : own_word r.own (Home me.who) ≡ own_word r0.own (Home me.who)
  pub map : SameMap r0 r
  pub low : k < 16
  pub empty : root_word me.who r0 k ≡ 0
  pub root : root_word me.who r k ≡ v
  pub some : v ≢ 0
  pub small : v < address_limit
  pub others : (j : ℕ) → k ≢ j → root_word me.who r j ≡ root_word me.who r0 j
  pub dying : r.dying ≡ r0.dying
  pub value : IsValue (sight me.who r) v n
  pub events : es ≡ event.Up me.who (Root me.who k) v ∷ []
  pub entry : ℕ
  pub q : Memo
  pub reading : IsReading me a r0 q
  pub told : IsTold a key entry n v q
  pub has : a ≡ me.who → map_in r0.part key ≡ Some (n, v)
  pub keys : ℕ
  pub search : HasSearch me a key keys tr
  pub bound : IsWithin (steps + 2 * keys) tr

-- the latch with the search, the two loads, the root
abbrev pub rooted_steps : Bool → ℕ
rooted_steps wide = 4 + 2 + (up_steps wide + 16)

-- what is known before the latch is given back, by what is to be answered
abbrev pub GiveKnows : FetchState → Fetched → Memo → Memo → Trail → List Event → Type 0
GiveKnows m Missing r0 r tr es = IsNowhere m.me m.author m.key r0 r tr es
GiveKnows m (Refused f) r0 r tr es = IsUnrooted m.me m.author m.key f (Some m.author) (rooted_steps m.me.geometry.wide) r0 r tr es
GiveKnows m (Rooted k b n) r0 r tr es = IsRooted m.me m.author m.key k b n (Some m.author) (rooted_steps m.me.geometry.wide) r0 r tr es

abbrev pub FetchKnows : FetchState → FetchPoint → Memo → Memo → Trail → List Event → Type 0
FetchKnows m Search r0 r tr es = MayFetch m.me m.author r0 × (r ≡ r0) × (tr ≡ []) × (es ≡ [])
FetchKnows m Value r0 r tr es = GetKnows (got m get.Value) get.Value r0 r tr es × IsOn m.me m.author m.key 4 r tr × (recovers r0 ≡ false)
FetchKnows m Number r0 r tr es = GetKnows (got m get.Number) get.Number r0 r tr es × IsOn m.me m.author m.key 5 r tr × (recovers r0 ≡ false) × Contains r.values m.block
FetchKnows m Share r0 r tr es = GetKnows (got m get.Known) get.Known r0 r tr es × IsOn m.me m.author m.key 6 r tr × (recovers r0 ≡ false) × IsValue (sight m.me.who r) m.block m.number × (is_reached m.me.who r m.block ≡ true)
FetchKnows m Give r0 r tr es = GiveKnows m m.outcome r0 r tr es

-- ---- what it leaves

-- all that it makes besides two word steps for each entry whose key is read
abbrev pub fetch_steps : Bool → ℕ
fetch_steps wide = rooted_steps wide + 2

abbrev pub FetchLeaves : FetchState → Memo → Memo → Trail → List Event → Fetched → Type 0
FetchLeaves m r0 r tr es Missing = GotNone m.me m.author m.key r0 r tr es
FetchLeaves m r0 r tr es (Refused f) = IsUnrooted m.me m.author m.key f None (fetch_steps m.me.geometry.wide) r0 r tr es
FetchLeaves m r0 r tr es (Rooted k b n) = IsRooted m.me m.author m.key k b n None (fetch_steps m.me.geometry.wide) r0 r tr es

-- ---- the plan

-- what holds after each load, by the memo before, the word found and the memo
abbrev pub FetchFound : FetchState → FetchPoint → Memo → ℕ → Memo → Type 0
FetchFound m Value = ReferenceLoaded m.entry 1
FetchFound m y = WordLoaded (Body m.block 0)

-- the part that the load at a point is
abbrev pub fetch_word_part : FetchState → FetchPoint → Part Word ℕ
fetch_word_part m y = asked_part (word_part (is_search y) m.me (fetch_ask m y) (FetchFound m y))

abbrev pub fetch_part : FetchState → FetchPoint → Part FetchCall FetchAnswer
fetch_part m y = or_part (calls_part locate_parts locate_plan) (or_part (fetch_word_part m y) (or_part up_root_part (calls_part word_control unlatch_plan)))

abbrev pub fetch_plan : Planned FetchState FetchCall FetchAnswer Fetched
fetch_plan =
    record {
      steered = fetch_steered;
      part = λ m. fetch_part m m.point;
      knows = λ m. FetchKnows m m.point;
      leaves = FetchLeaves;
    }
