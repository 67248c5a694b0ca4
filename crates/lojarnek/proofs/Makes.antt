-- what allocations leave, in the words of roots and of plain words
use Rattle.std.proofs.Common.{◌≡◌, ◌≢◌, ℕ, ◌+◌, ◌-◌, ◌^◌, ◌<◌, ◌≤◌, Bool, true, false, List, length, take, Result, Ok, Err, refl, sym, ap, ◌∙◌, subst, arith, get_or-take}
use Rattle.std.proofs.lemmas.{Bool.{cond-false, cond-true, eq-eqb, ne_eqb}, List.Elements.Contains-append_left}
use Rattle.std.specs.{List.Contains, Prelude.slice_index}
use Rattle.shm_words.specs.{declared.geometry.Geometry.Geometry, Layout.{bodies, place_limit}}
use Rattle.shm_words.specs.Tags.{TagFits, tag_plain, tag_refs}
use Rattle.shm_words.proofs.Words.{tag_plain-word, tag_refs-word}
use Rattle.shm_graph.specs.declared.{ask.Me.Me, memo.{Memo.Memo, Stored.Stored}, spot.Spot.Spot}
use Rattle.shm_graph.specs.{declared.spot.Spot.TheVariants.{Body, Era, Root, Tag}, Asks.Trail, Events.Event}
use Rattle.shm_graph.specs.{Held.is_loose, Operations.{IsHeld, IsReady}, Views.own_word}
use Rattle.shm_count.specs.{declared.answer.Made.Made, Roots.root_word, Step.Control.IsInside, Tear.Memos.Knows}
use Rattle.shm_count.specs.Waiting.{LeavesQueues}
use Rattle.shm_alloc.specs.declared.{alloc.AllocFault.AllocFault, point.AllocState.AllocState, request.Near.Near}
use Rattle.shm_alloc.specs.{declared.request.Request.Request, Alloc.{AsPart.AllocLeaves, Control.tag_asked, MadeGives}}
use Rattle.shm_alloc.specs.declared.alloc.AllocFault.TheVariants as alloc
use Rattle.shm_alloc.proofs.{MadeBlocks.block_inside, MadeRoots.made_word}
use Rattle.shm_table.specs.Staying.{IsSpent}
use Rattle.shm_pool.specs.{declared.reply.Reply.TheVariants.Done, Called.HasAllocatedNear, Tokens.{Acting, me_of}}
use Rattle.shm_pool.proofs.Replied.{ready}
use Rattle.lojarnek.specs.Blocks.{Denies, HasCome, IsMade, KeepsRoots, KnowsWord, OnlyRoot, WhyNotMade, names}
use Rattle.lojarnek.specs.{Refusing.{alloc_error, is_death}, Roots.{IsAtBlocks, KnowsRoots}, Standing.{Acts, acts_of}}
use Rattle.lojarnek.proofs.{Comes.{err_came, named_here, ok_came, roots_kept, still_at}, Done.{done_lives, done_same}}
use Rattle.lojarnek.proofs.Naming.{knows_kept, knows_set}

-- ---- in the memo

bodies_some : (g : Geometry) (b : ℕ) → bodies g ≤ b → b ≢ 0
bodies_some g b l e = omega arith

alloc_queues : (m : AllocState) (r0 r : Memo) (tr : Trail) (es : List Event) (a : Result Made AllocFault) → AllocLeaves m r0 r tr es a → LeavesQueues r0 r
alloc_queues m r0 r tr es a h =
    let s = h.holds.stays in
    record {
      latch = s.latch;
      unsent = λ j. ap (λ (xs : List ℕ). slice_index xs j) s.unsent;
      untaken = λ j. ap (λ (xs : List ℕ). slice_index xs j) s.untaken;
      loose = ap is_loose s.part;
    }

-- a root of c, the least one that was empty, names the block that was made
record IsMadeAt (c : ℕ) (x : Made) (r0 r : Memo) : Type 0 where
  pub low : x.root < 16
  pub empty : root_word c r0 x.root ≡ 0
  pub before : (j : ℕ) → j < x.root → root_word c r0 j ≢ 0
  pub named : root_word c r x.root ≡ x.block
  pub others : (j : ℕ) → j ≢ x.root → root_word c r j ≡ root_word c r0 j

made_at : (me : Me) (q : Request) (r0 r : Memo) (x : Made) → MadeGives me q r0 r x → IsMadeAt me.who x r0 r
made_at me q r0 r x h =
    record {
      low = h.root;
      empty = h.empty;
      before = h.before;
      named = made_word me q r0 r x x.root h ∙ cond-true _ _ _ (eq-eqb x.root x.root refl);
      others = λ j n. made_word me q r0 r x j h ∙ cond-false _ _ _ (ne_eqb x.root j (λ e. n (sym e)));
    }

module _ (me : Me) (q : Request) (r0 r : Memo) (x : Made) (h : MadeGives me q r0 r x) (xs : List ℕ) (refs : q.refs ≤ 16) (count : q.count ≡ length xs) (few : length xs ≤ 8) (plain : take (length xs) q.plain ≡ xs) (who : me.who < 64) where
  made_knows : (s : Spot) (v : ℕ) → Contains h.knows.0.words (record { spot = s; value = v }) → Knows r s v
  made_knows s v it = subst (λ (ks : List Stored). Contains ks (record { spot = s; value = v })) (sym h.knows.1) (Contains-append_left h.knows.0.words r0.known (record { spot = s; value = v }) it)

  tag_fits : TagFits me.geometry.wide (record { refs = q.refs; plain = q.count; author = me.who; link = 0 })
  tag_fits = record { refs = refs; plain = omega arith; author = who; link = by me.geometry.wide }
    where
      by : (z : Bool) → 0 < place_limit z
      by true = omega arith
      by false = omega arith

  made_words : (j : ℕ) → j < length xs → (t : ℕ) × Knows r (Tag x.block) t × (j < tag_plain me.geometry.wide t) × Knows r (Body x.block (tag_refs me.geometry.wide t + j)) (slice_index xs j)
  made_words j low =
      let t : ℕ = tag_asked me.geometry.wide q me.who in
      let told : tag_plain me.geometry.wide (tag_asked me.geometry.wide q me.who) ≡ q.count = tag_plain-word me.geometry.wide _ tag_fits in
      let behind : tag_refs me.geometry.wide (tag_asked me.geometry.wide q me.who) ≡ q.refs = tag_refs-word me.geometry.wide _ tag_fits in
      let value : slice_index q.plain j ≡ slice_index xs j = sym (get_or-take (length xs) q.plain j 0 low) ∙ ap (λ (zs : List ℕ). slice_index zs j) plain in (
        t,
        made_knows (Tag x.block) t h.knows.2.tag,
        omega arith,
        subst (λ (v : ℕ). Knows r (Body x.block (tag_refs me.geometry.wide (tag_asked me.geometry.wide q me.who) + j)) v) value
            (subst (λ (n : ℕ). Knows r (Body x.block (n + j)) (slice_index q.plain j)) (sym behind) (made_knows (Body x.block (q.refs + j)) (slice_index q.plain j) (h.knows.2.words j (omega arith)))),
      )

-- why none was made
abbrev Unmade : ℕ → Memo → Memo → AllocFault → Type 0
Unmade c r0 r (alloc.EraSpent e) = IsSpent c e r
Unmade c r0 r alloc.RootsFull = (k : ℕ) → k < 16 → root_word c r0 k ≢ 0
Unmade c r0 r (alloc.Full s b) = (k : ℕ) × (k < 16) × (root_word c r0 k ≡ 0)

unmade : (m : AllocState) (r0 r : Memo) (tr : Trail) (es : List Event) (f : AllocFault) → AllocLeaves m r0 r tr es (Err f) → Unmade m.me.who r0 r f
unmade m r0 r tr es (alloc.EraSpent e) h =
    let own : own_word r.own (Era m.me.who m.me.who) ≡ own_word r0.own (Era m.me.who m.me.who) = ap (λ (o : List Stored). own_word o (Era m.me.who m.me.who)) h.holds.gives.0.own in
    let era : e ≡ own_word r0.own (Era m.me.who m.me.who) = h.holds.gives.1.0 in
    let spent : 2 ^ 47 - 3 < e = h.holds.gives.1.1 in
    (omega arith, omega arith)
unmade m r0 r tr es alloc.RootsFull h = h.holds.gives.1.1
unmade m r0 r tr es (alloc.Full s b) h = h.holds.gives.1.1

unmade_roots : (m : AllocState) (r0 r : Memo) (tr : Trail) (es : List Event) (f : AllocFault) → AllocLeaves m r0 r tr es (Err f) → (k : ℕ) → root_word m.me.who r k ≡ root_word m.me.who r0 k
unmade_roots m r0 r tr es f h k = ap (λ (o : List Stored). own_word o (Root m.me.who k)) h.holds.gives.0.own

alloc_lives : (T : Type 0) (f : AllocFault) → false ≡ is_death {T = T} (Err (alloc_error f))
alloc_lives T (alloc.EraSpent e) = refl
alloc_lives T alloc.RootsFull = refl
alloc_lives T (alloc.Full s b) = refl

-- ---- in the client

module _ (t t' : Acting) (before left n : ℕ) (xs : List ℕ) (near : Near) (at : IsAtBlocks t) where
  abbrev c : Acts
  c = acts_of t before

  abbrev c' : Acts
  c' = acts_of t' left

  made_still : (a : Result Made AllocFault) → HasAllocatedNear n xs near t t' before left (Done a) → IsAtBlocks t'
  made_still a h = still_at t t' before left at (done_same (Done a) at.alive h.done) (done_lives a h.done) h.rests (alloc_queues h.machine t.account.memo t'.account.memo _ _ a h.done.left_so)

  same_me : (a : Result Made AllocFault) (h : HasAllocatedNear n xs near t t' before left (Done a)) → me_of t'.of t'.account ≡ h.machine.me
  same_me a h = let e : me_of t'.of t'.account ≡ me_of t.of t.account = λ i. record { geometry = (h.done.same.0 i).start.geometry; who = h.done.same.1 i } in e ∙ sym h.asked.of

  module _ (x : Made) (h : HasAllocatedNear n xs near t t' before left (Done (Ok x))) where
    is_ready : IsReady h.machine.me t'.account.memo
    is_ready = subst (λ (z : Me). IsReady z t'.account.memo) (same_me (Ok x) h) (ready t'.of t'.account h.done.stood ((h.rests.between (done_lives (Ok x) h.done)).idle) (me_of t'.of t'.account) refl)

    inside : IsHeld h.machine.me t'.account.memo → IsInside h.machine.me x.block
    inside (w, rs, held, same) = block_inside h.machine.me h.machine.request t.account.memo x w rs held is_ready.who (subst (λ (y : Memo). MadeGives h.machine.me h.machine.request t.account.memo y x) (sym same) h.done.left_so.holds.gives)

    facts : IsMadeAt t.account.who x t.account.memo t'.account.memo
    facts = subst (λ (w : ℕ). IsMadeAt w x t.account.memo t'.account.memo) (ap (λ (z : Me). z.who) h.asked.of) (made_at h.machine.me h.machine.request t.account.memo t'.account.memo x h.done.left_so.holds.gives)

    here : names c' x.root ≡ x.block
    here = named_here t t' h.done.same.1 x.root ∙ facts.named

    others : OnlyRoot x.root c c'
    others j other = named_here t t' h.done.same.1 j ∙ facts.others j other

    words : n ≤ 16 → length xs ≤ 8 → (j : ℕ) → j < length xs → KnowsWord (names c' x.root) j (slice_index xs j) c'
    words refs few j low =
        let small : h.machine.me.who < h.machine.me.geometry.clients = is_ready.who in
        let most : h.machine.me.geometry.clients ≤ 16 = is_ready.geometry.clients in
        let asked : h.machine.request.refs ≡ n = h.asked.refs in
        subst (λ (b : ℕ). KnowsWord b j (slice_index xs j) c') (sym here)
        (subst (λ (z : Bool). (g : ℕ) × Knows t'.account.memo (Tag x.block) g × (j < tag_plain z g) × Knows t'.account.memo (Body x.block (tag_refs z g + j)) (slice_index xs j)) (sym (ap (λ (z : Me). z.geometry.wide) (same_me (Ok x) h)))
        (made_words h.machine.me h.machine.request t.account.memo t'.account.memo x h.done.left_so.holds.gives xs (omega arith) h.asked.count few h.asked.plain (omega arith) j low))

    pub made_came : (bs bs' : List ℕ) → KnowsRoots t bs → n ≤ 16 → length xs ≤ 8 → slice_index bs' x.root ≡ x.block → ((j : ℕ) → j ≢ x.root → slice_index bs' j ≡ slice_index bs j) → HasCome (λ (y : Made). IsMade xs y.root c c') WhyNotMade c c' bs' (Ok x)
    made_came bs bs' knows refs few at' others' =
        ok_came (λ (y : Made). IsMade xs y.root c c') WhyNotMade c c' bs' x (done_same (Done (Ok x)) at.alive h.done) (made_still (Ok x) h)
        (knows_set t t' bs bs' x.root x.block at.kind at.alive knows here others at' others')
        (record {
          rooted = record { low = facts.low; empty = facts.empty; least = facts.before; named = refl; others = others };
          some = λ e. bodies_some h.machine.me.geometry x.block (inside is_ready.held).0 (sym here ∙ e);
          words = words refs few;
        })

  module _ (f : AllocFault) (h : HasAllocatedNear n xs near t t' before left (Done (Err f))) where
    kept : KeepsRoots c c'
    kept = roots_kept t t' h.done.same.1 (λ k. subst (λ (w : ℕ). root_word w t'.account.memo k ≡ root_word w t.account.memo k) (ap (λ (z : Me). z.who) h.asked.of) (unmade_roots h.machine t.account.memo t'.account.memo _ _ f h.done.left_so k))

    why : Unmade t.account.who t.account.memo t'.account.memo f
    why = subst (λ (w : ℕ). Unmade w t.account.memo t'.account.memo f) (ap (λ (z : Me). z.who) h.asked.of) (unmade h.machine t.account.memo t'.account.memo _ _ f h.done.left_so)

  unmade_denied : (f : AllocFault) (h : HasAllocatedNear n xs near t t' before left (Done (Err f))) → Denies WhyNotMade c c' (alloc_error f)
  unmade_denied (alloc.EraSpent e) h = ((why (alloc.EraSpent e) h, kept (alloc.EraSpent e) h), done_lives (Err (alloc.EraSpent e)) h.done)
  unmade_denied alloc.RootsFull h = (why alloc.RootsFull h, record { alive = done_lives (Err alloc.RootsFull) h.done; roots = kept alloc.RootsFull h }, tt)
  unmade_denied (alloc.Full s b) h = (why (alloc.Full s b) h, record { alive = done_lives (Err (alloc.Full s b)) h.done; roots = kept (alloc.Full s b) h }, tt)

  pub unmade_came : (f : AllocFault) (bs : List ℕ) → KnowsRoots t bs → HasAllocatedNear n xs near t t' before left (Done (Err f)) → HasCome (λ (y : Made). IsMade xs y.root c c') WhyNotMade c c' bs (Err (alloc_error f))
  unmade_came f bs knows h =
      err_came (λ (y : Made). IsMade xs y.root c c') WhyNotMade c c' bs (alloc_error f) (done_same (Done (Err f)) at.alive h.done) (made_still (Err f) h) (knows_kept t t' bs at.kind at.alive knows (kept f h)) (alloc_lives Made f) (unmade_denied f h)
