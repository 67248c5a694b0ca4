-- memos of a tear-down: what a word step leaves of them
use Rattle.std.proofs.Common.{◌≡◌, ℕ, ◌+◌, ◌<◌, ◌≤◌, refl, sym, ap, ◌∙◌, subst, arith, true, leb, ltb, ◌||◌, List, ◌∷◌, Option, Some}
use Rattle.std.proofs.lemmas.Bool.{cond-true, ltb-true, ltb-false}
use Rattle.std.specs.List.{Contains, filter}
use Rattle.shm_words.specs.declared.tag.Tag.{Tag as ATag}
use Rattle.shm_graph.specs.declared.ask.{Ask.TheVariants.{Load, Store}, Me.Me}
use Rattle.shm_graph.specs.declared.{spot.Spot.TheVariants.{Era, Head, Tag, Body}, memo.{Stored.Stored, Memo.Memo}}
use Rattle.shm_graph.specs.{Agents.recovers, Asks.Trail, Changes.{called, memo_on}, Events.Event, Laws.{Frame, framed}}
use Rattle.shm_graph.specs.{Reach.{learnt, is_dying}, MemoAfterRead.word_read, MemoAfterStore.{not_of, not_block}}
use Rattle.shm_graph.specs.{Telling.{Claim, claim_of}, Views.own_word, Core.core}
use Rattle.shm_graph.proofs.{Machines.Calling.called_part, StepKinds.Loads.choice}
use Rattle.shm_count.specs.{declared.tear_point.TearPoint.TearPoint, Tear.{Control.word_or_free, Events.Visit}}
use Rattle.shm_count.specs.Tear.{Settled, Linked, is_outside, IsPaid, TearHolds}
use Rattle.shm_count.specs.{Tear.Memos.{TearStays, Knows, IsTagged, Retains}, Proved.Retaining.retains_then}
use Rattle.shm_count.specs.declared.tear_point.TearPoint.TheVariants as point
use Rattle.kind_parts.proofs.Cores.{called_core}

-- ---- what stays

pub stays_now : (c : ℕ) (m : Memo) → TearStays c m m
stays_now c m = record { rest = refl; own = λ p e. refl; rows = λ j. omega arith }

pub stays_then : (c : ℕ) (m n r : Memo) → TearStays c m n → TearStays c n r → TearStays c m r
stays_then c m n r x y =
    record {
      rest = y.rest ∙ ap (λ (z : Memo). record z { own = r.own; dying = r.dying; known = r.known; looks = r.looks; values = r.values }) x.rest;
      own = λ p e. y.own p e ∙ x.own p e;
      rows = λ j. let a = x.rows j in let b = y.rows j in omega arith;
    }

-- where only what is known, the zero-count blocks and what the memo has of its call and of its agents differ
pub stays_core : (c : ℕ) (m n : Memo) (ks : List Stored) (ds : List ℕ) → core n ≡ core (record m { known = ks; dying = ds }) → TearStays c m n
stays_core c m n ks ds e =
    let own : n.own ≡ m.own = ap (λ (x : Memo). x.own) e in
    record {
      rest = e ∙ sym (ap (λ (z : Memo). core (record m { own = z.own; dying = z.dying; known = z.known; looks = z.looks; values = z.values })) e);
      own = λ p l. ap (λ (s : List Stored). own_word s p) own;
      rows = λ j. subst (λ (s : List Stored). own_word m.own (Era c j) ≤ own_word s (Era c j)) (sym own) (omega arith);
    }

-- ---- the memo after a word step

-- the tag of a block was read
pub tag_core : (me : Me) (f : Frame) (m : Memo) (at b n : ℕ) → core (memo_on m (framed me (Load at) f n) (Tag b)) ≡ core (record m { known = learnt (Tag b) n m.known })
tag_core me f m at b n = ap (λ (x : Memo). record x { known = learnt (Tag b) n x.known }) (called_core m (framed me (Load at) f n))

-- a word of a zero-count block of which something is told was read
pub word_core : (me : Me) (f : Frame) (m : Memo) (at b i n : ℕ) (k : Claim) → is_dying m b ≡ true → claim_of me.geometry.wide me.who (called m (framed me (Load at) f n)) (b + 2 + i) ≡ Some k
    → core (memo_on m (framed me (Load at) f n) (Body b i)) ≡ core (record m { known = learnt (Body b i) n m.known })
word_core me f m at b i n k dies e =
    let N : Memo = called m (framed me (Load at) f n) in
    let d : is_dying N b ≡ true = called_part (λ (x : Memo). is_dying x b) m (framed me (Load at) f n) refl refl ∙ dies in
    ap (λ (o : Option Claim). core (word_read N o b i n)) e
    ∙ (ap core {y = record N { known = learnt (Body b i) n N.known }} (cond-true (is_dying N b || leb k.refs i) _ _ (ap (λ z. z || leb k.refs i) d))
    ∙ ap (λ (x : Memo). record x { known = learnt (Body b i) n x.known }) (called_core m (framed me (Load at) f n)))

-- the tag of a zero-count block was stored
pub link_core : (me : Me) (f : Frame) (m : Memo) (at b x : ℕ) → is_dying m b ≡ true → core (memo_on m (framed me (Store at x) f 0) (Tag b)) ≡ core (record m { known = learnt (Tag b) x m.known })
link_core me f m at b x dies =
    let N : Memo = called m (framed me (Store at x) f 0) in
    let d : is_dying N b ≡ true = called_part (λ (y : Memo). is_dying y b) m (framed me (Store at x) f 0) refl refl ∙ dies in
    ap core (cond-true (is_dying N b) _ _ d)
    ∙ ap (λ (y : Memo). record y { known = learnt (Tag b) x y.known }) (called_core m (framed me (Store at x) f 0))

-- a zero-count block was freed
pub free_core : (me : Me) (f : Frame) (m : Memo) (b : ℕ) → core (memo_on m (framed me (Store b 0) f 0) (Head b)) ≡ core (record m { known = filter (not_of b) m.known; dying = filter (not_block b) m.dying })
free_core me f m b = ap (λ (y : Memo). record y { known = filter (not_of b) y.known; dying = filter (not_block b) y.dying }) (called_core m (framed me (Store b 0) f 0))

-- ---- what holds at each point

-- the memo has the same zero-count blocks, and the words that are done with are still known to be 0
pub settled_same : (me : Me) (first b k : ℕ) (vs : List Visit) (r0 m n : Memo) (es : List Event) → Settled me first b k vs r0 m es → TearStays me.who m n → Retains me.who m n → n.dying ≡ m.dying → recovers n ≡ recovers m → ((j : ℕ) → j < k → Knows n (Body b j) 0) → Settled me first b k vs r0 n es
settled_same me first b k vs r0 m n es s stays retains same agent zeros =
    record {
      agent = agent ∙ s.agent;
      stays = stays_then me.who r0 m n s.stays stays;
      retains = retains_then me.who r0 m n s.stays s.retains retains;
      visited = record {
        inside = s.visited.inside;
        room = s.visited.room;
        dying = subst (λ (ds : List ℕ). Contains ds b) (sym same) s.visited.dying;
        most = s.visited.most;
        zeros = zeros;
      };
      apart = s.apart;
      others = ap (filter (is_outside (record { block = b; cleared = k } ∷ vs))) same ∙ s.others;
      walks = s.walks;
    }

-- the next reference word, or the header
pub on_words : (me : Me) (first b k i : ℕ) (vs : List Visit) (g : ATag) (r0 m : Memo) (es : List Event) (tr : Trail) → Settled me first b k vs r0 m es → IsTagged me m b g → Linked me m g.link vs → i ≤ k
    → IsPaid me.geometry.wide (record { block = b; cleared = k } ∷ vs) k (word_or_free g i) es tr → TearHolds me first r0 b (word_or_free g i) m es tr
on_words me first b k i vs g r0 m es tr s tag link l paid =
    choice (λ (y : TearPoint). IsPaid me.geometry.wide (record { block = b; cleared = k } ∷ vs) k y es tr → TearHolds me first r0 b y m es tr) (ltb i g.refs) (point.Word g i) (point.Free g)
    (λ z p. (k, vs, record { settled = s; shows = (tag, link, ltb-true i g.refs z, l); paid = p }))
    (λ z p. (k, vs, record { settled = s; shows = (tag, link, (let u = ltb-false i g.refs z in omega arith)); paid = p }))
    paid
