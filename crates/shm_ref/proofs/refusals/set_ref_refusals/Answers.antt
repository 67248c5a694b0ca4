use Rattle.std.proofs.Common.{◌≡◌, ◌≢◌, ℕ, zero, suc, ◌^◌, ◌<◌, ◌-◌, false, List, [], ◌++◌}
use Rattle.shm_graph.specs.declared.{ask.Me.Me, memo.Memo.Memo, spot.Spot.{Spot, TheVariants.{Body, Era}}}
use Rattle.shm_graph.specs.{Events.Event, Views.own_word}
use Rattle.shm_count.specs.{Lowering.StoppedAt, Slots.{Took, Untouched}, Step.Control.last_era}
use Rattle.shm_count.specs.Tear.Events.{Visit, Walks}
use Rattle.shm_ref.specs.SetRef.{Control.setting, Memos.word_seen, IsRead, SetSpent, aim_of, taken_events}
use Rattle.shm_ref.specs.SetRef.SetSpent.{AtStep, AtTear}
use Rattle.shm_ref.proofs.FullCounts.{set_reads_count}
use Rattle.shm_ref.proofs.refusals.set_ref_refusals.Goals as goal

pub returns-clause-author : goal.returns-clause-author
returns-clause-author c me b k to a r0 r tr es g = let s = g.stays in (s.0, s.1, s.2, s.3, s.4, s.5)

pub returns-clause-none : goal.returns-clause-none
returns-clause-none c me b k to n r0 r tr es g = let s = g.stays in (s.0, s.1, s.2, s.3, s.4, s.5, s.6)

pub returns-clause-other : goal.returns-clause-other
returns-clause-other c me b k to r0 r tr es g = let s = g.stays in (s.0, s.1.known, s.1.author, s.1.low, s.2, s.3, s.4)

pub returns-clause-full : goal.returns-clause-full
returns-clause-full c me b k to d n r0 r tr es g = let s = g.stays in (s.0.block, s.0.some, s.0.full, (s.0.tag, s.0.old, s.0.read, s.0.other, s.0.memo), s.1)

-- a reference that was taken out is an event
some_taken : (c : ℕ) (p : Spot) (a x : ℕ) (es ds : List Event) → es ≡ taken_events c p a x ++ ds → es ≢ []
some_taken c p a zero es ds e none = absurd (cc)
some_taken c p a (suc x) es ds e none = absurd (cc)

module _ (me : Me) (b k to : ℕ) (r0 r : Memo) (es : List Event) (e : ℕ) (vs : List Visit) where
  abbrev w : ℕ
  w = me.who

  kept_by : SetSpent me b k to r0 r es e vs → es ≡ [] → (t : ℕ) × (old : ℕ) × IsRead me.geometry.wide w b k t old r0 × (old ≢ to) × (e ≡ own_word r0.own (Era w w)) × (last_era (aim_of old to) < e) × Untouched w (word_seen b k t old r0) r
  kept_by (AtStep tag old read other memo cause none all) n = (tag, old, read, other, cause.0, cause.1, memo)
  kept_by (AtTear tag old read some other took stopped torn told walk) n = absurd (some_taken w (Body b k) old to es torn told n)

  torn_by : SetSpent me b k to r0 r es e vs → es ≢ [] → (2 ^ 47 - 3 < e)
      × ((t : ℕ) × (old : ℕ) × IsRead me.geometry.wide w b k t old r0 × (old ≢ 0) × (old ≢ to) × Took w (Body b k) false old to false (word_seen b k t old r0) r × ((us : List Visit) × (ds : List Event) × (es ≡ taken_events w (Body b k) old to ++ ds) × Walks w old ds us × StoppedAt me (word_seen b k t old r0) r e us))
  torn_by (AtStep tag old read other memo cause none all) n = absurd (n none)
  torn_by (AtTear tag old read some other took stopped torn told walk) n = (stopped.spent, (tag, old, read, some, other, took, (vs, torn, told, walk, stopped)))

pub returns-clause-kept : goal.returns-clause-kept
returns-clause-kept c me b k to e r0 r tr es g n = kept_by me b k to r0 r es e g.left g.stays n

pub returns-clause-torn : goal.returns-clause-torn
returns-clause-torn c me b k to e r0 r tr es g n = torn_by me b k to r0 r es e g.left g.stays n

pub returns-clause-read : goal.returns-clause-read
returns-clause-read c me b k to d n tr h = set_reads_count (setting me b k to) d n tr h
