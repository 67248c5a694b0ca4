-- what homes, reference words and plain words that were read leave of a memo: reading may go on: what is proved of it
use Rattle.std.proofs.Common.{◌≡◌, ℕ, refl, sym, ap, ◌∙◌, Bool, true, false, eqb, ◌||◌, ◌+◌, append-nil, List, [], ◌∷◌, ◌++◌, map}
use Rattle.std.proofs.{Math.Bool.or_assoc, lemmas.{Bool.or_left, List.{map-append, Folds.list_any-append}}}
use Rattle.std.specs.{Prelude.{if◌then◌else◌, ◌==◌, Result, Ok, Err}, List.{filter, list_any}}
use Rattle.shm_graph.specs.declared.{ask.Me.Me, spot.Spot.{Spot, TheVariants.{Body, Hold, Home, Root, Tag}}}
use Rattle.shm_graph.specs.{declared.memo.{Look.Look, Memo.Memo, Op.Op, Stored.Stored}, Asks.Trail, Core.core}
use Rattle.shm_graph.specs.{Events.Event, Idle.{IsIdle, hold_word}, Ops.{cover, cover_of}}
use Rattle.shm_graph.specs.{Reach.{is_named, is_reached, learnt, named_blocks, shown}, MemoAfterRead.values_read}
use Rattle.shm_graph.specs.Views.{own_word}
use Rattle.shm_words.specs.Tags.{tag_refs}
use Rattle.kind_parts.proofs.Cores.{here_same}
use Rattle.shm_count.specs.{Proved.Retaining.{named_same, slots_learnt}, Tear.Memos.is_slot_word}
use Rattle.shm_ref.specs.declared.answer.LookFault.{LookFault, TheVariants.{NoSuchRef, NotHeld}}
use Rattle.shm_ref.specs.declared.answer.{NoSuchWord.NoSuchWord, NotHeld.NotHeld as Unheld}
use Rattle.shm_ref.specs.declared.{home_of.HomeOfState.HomeOfState, look.LookState.LookState, read.ReadState.ReadState}
use Rattle.shm_ref.specs.{HomeOf.HomeOfLeaves, Lefts.MayDrop, Look.LookLeaves, Read.ReadLeaves}
use Rattle.shm_ref.specs.{ReadParts.{MayAsk, tagged}, OnlyRead.OnlyRead}

-- ---- what follows

-- no step is in progress
pub still_drops : (me : Me) (m r : Memo) → OnlyRead m r → MayDrop me m → MayDrop me r
still_drops me m r s h = record { geometry = h.geometry; who = h.who; here = here_same m r s.status h.here; idle = s.op ∙ h.idle }

-- an identity between two calls is between two calls still
pub still_idle : (c : ℕ) (m r : Memo) → OnlyRead m r → IsIdle c m → IsIdle c r
still_idle c m r s h =
    record {
      live = s.status ∙ h.live;
      op = s.op ∙ h.op;
      making = s.making ∙ h.making;
      hold = ap (λ ks. own_word ks (Hold c)) s.own ∙ (h.hold ∙ ap hold_word (sym s.latch));
    }

-- reading may go on
pub still_asks : (me : Me) (m r : Memo) → OnlyRead m r → MayAsk me m → MayAsk me r
still_asks me m r s h =
    record {
      may = still_drops me m r s h.may;
      hold = ap (λ ks. own_word ks (Hold me.who)) s.own ∙ (h.hold ∙ ap hold_word (sym s.latch));
    }

-- and what is in reach stays so
pub still_reached : (c q : ℕ) (m r : Memo) → OnlyRead m r → is_reached c m q ≡ true → is_reached c r q ≡ true
still_reached c q m r s h =
    let blocks : List Look → List ℕ = map (λ (k : Look). k.block) in
    ap (λ ks. list_any (eqb q) (named_blocks c r ++ blocks ks)) s.looks
    ∙ (list_any-append (eqb q) (named_blocks c r) (blocks (m.looks ++ s.more))
    ∙ (ap (λ z. z || list_any (eqb q) (blocks (m.looks ++ s.more))) (named_same c m r q (λ k. word (Root c k)) (word (Home c)) s.slots)
    ∙ (ap (λ z. is_named c m q || z) (ap (list_any (eqb q)) (map-append (λ (k : Look). k.block) m.looks s.more) ∙ list_any-append (eqb q) (blocks m.looks) (blocks s.more))
    ∙ (sym (or_assoc (is_named c m q) (list_any (eqb q) (blocks m.looks)) (list_any (eqb q) (blocks s.more)))
    ∙ or_left (is_named c m q || list_any (eqb q) (blocks m.looks)) (list_any (eqb q) (blocks s.more)) (sym (list_any-append (eqb q) (named_blocks c m) (blocks m.looks)) ∙ h)))))
  where
    word : (p : Spot) → shown r p ≡ shown m p
    word p = ap (λ (o : Op). cover (cover_of o) p (own_word r.own p)) s.op ∙ ap (λ ks. cover (cover_of m.op) p (own_word ks p)) s.own

-- ---- what they leave

-- a memo with this core, where it is another's with more looks, or with the same ones
read_more : (m r : Memo) (known : List Stored) (values : List ℕ) (more : List Look) → filter is_slot_word known ≡ filter is_slot_word m.known → core r ≡ core (record m { looks = m.looks ++ more; known = known; values = values }) → OnlyRead m r
read_more m r known values more slots e =
    record {
      status = ap (λ (x : Memo). x.status) e;
      own = ap (λ (x : Memo). x.own) e;
      op = ap (λ (x : Memo). x.op) e;
      making = ap (λ (x : Memo). x.making) e;
      latch = ap (λ (x : Memo). x.latch) e;
      slots = ap (λ (x : Memo). filter is_slot_word x.known) e ∙ slots;
      more = more;
      looks = ap (λ (x : Memo). x.looks) e;
    }

read_same : (m r : Memo) (known : List Stored) → filter is_slot_word known ≡ filter is_slot_word m.known → core r ≡ core (record m { known = known }) → OnlyRead m r
read_same m r known slots e = read_more m r known m.values [] slots (e ∙ ap (λ ls. core (record m { looks = ls; known = known })) (sym (append-nil m.looks)))

pub home_reads : (m : HomeOfState) (r0 r : Memo) (tr : Trail) (es : List Event) (a : Result ℕ Unheld) → HomeOfLeaves m r0 r tr es a → OnlyRead r0 r
home_reads m r0 r tr es (Ok b) h = by (b == 0) h.memo
  where
    by : (q : Bool) → core r ≡ core (if q then r0 else record r0 { looks = r0.looks ++ record { block = b; from = Home m.author } ∷ [] }) → OnlyRead r0 r
    by true e = read_same r0 r r0.known refl e
    by false e = read_more r0 r r0.known r0.values (record { block = b; from = Home m.author } ∷ []) refl e
home_reads m r0 r tr es (Err e) h = read_same r0 r r0.known refl h.memo

-- the tag was read
tag_only : (b x : ℕ) (r0 r : Memo) → core r ≡ core (tagged b x r0) → OnlyRead r0 r
tag_only b x r0 r e = read_same r0 r (learnt (Tag b) x r0.known) (slots_learnt (Tag b) x r0.known refl) e

-- and a word of the block
word_slots : (b i v x : ℕ) (r0 : Memo) → filter is_slot_word (learnt (Body b i) v (learnt (Tag b) x r0.known)) ≡ filter is_slot_word r0.known
word_slots b i v x r0 = slots_learnt (Body b i) v (learnt (Tag b) x r0.known) refl ∙ slots_learnt (Tag b) x r0.known refl

pub look_reads : (m : LookState) (r0 r : Memo) (tr : Trail) (es : List Event) (a : Result ℕ LookFault) → LookLeaves m r0 r tr es a → OnlyRead r0 r
look_reads m r0 r tr es (Ok v) h = by (v == 0) h.memo
  where
    m0 : Memo
    m0 = tagged m.block h.x r0

    known : List Stored
    known = learnt (Body m.block m.index) v m0.known

    more : List Look
    more = record { block = v; from = Body m.block m.index } ∷ []

    by : (q : Bool) → core r ≡ core (if q then record m0 { known = known } else record m0 { looks = m0.looks ++ more; known = known; values = values_read m0 m.block m.index v }) → OnlyRead r0 r
    by true e = read_same r0 r known (word_slots m.block m.index v h.x r0) e
    by false e = read_more r0 r known (values_read m0 m.block m.index v) more (word_slots m.block m.index v h.x r0) e
look_reads m r0 r tr es (Err (NoSuchRef n)) h = tag_only m.block h.x r0 r h.memo
look_reads m r0 r tr es (Err NotHeld) h = tag_only m.block h.x r0 r h.memo

pub read_reads : (m : ReadState) (r0 r : Memo) (tr : Trail) (es : List Event) (a : Result ℕ NoSuchWord) → ReadLeaves m r0 r tr es a → OnlyRead r0 r
read_reads m r0 r tr es (Ok v) h = read_same r0 r (learnt (Body m.block (tag_refs m.me.geometry.wide h.x + m.index)) v (learnt (Tag m.block) h.x r0.known)) (word_slots m.block (tag_refs m.me.geometry.wide h.x + m.index) v h.x r0) h.memo
read_reads m r0 r tr es (Err e) h = tag_only m.block h.x r0 r h.memo
