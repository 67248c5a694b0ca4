-- what looks at reference words and shares under a latch leave
use Rattle.std.proofs.Common.{◌≡◌, ◌≢◌, ℕ, ◌<◌, true, false, List, [], ◌∷◌, ◌++◌, Result, Ok, Err, inl, inr, refl, sym, ap, ◌∙◌, subst}
use Rattle.std.proofs.lemmas.{Bool.cases_eq, List.Elements.Contains-append_right}
use Rattle.std.specs.{List.{Contains, filter}, Prelude.{Option, Some, None, is_ok, slice_index, ◌==◌}}
use Rattle.shm_graph.specs.declared.{ask.Me.Me, memo.{Memo.Memo, Stored.Stored}, spot.Spot.TheVariants.{Body, Tag}}
use Rattle.shm_graph.specs.{Asks.Trail, Core.core, Events.Event, Held.is_loose, MemoAfterRead.values_read}
use Rattle.shm_graph.specs.Reach.{is_reached, learnt, not_at}
use Rattle.shm_graph.proofs.StepKinds.Loads.{choice}
use Rattle.kind_laws.proofs.Lists.{Contains-filter}
use Rattle.plans.specs.Words.{word_control}
use Rattle.shm_count.specs.{declared.answer.ShareFault.ShareFault, Proved.UpRoot.AsPart.rooted_root, Roots.root_word}
use Rattle.shm_count.specs.{Tear.Memos.Knows, UpRoot.{Control.{rooting, rooting_parts}, rooting_plan}}
use Rattle.shm_count.specs.Waiting.{LeavesQueues}
use Rattle.shm_count.specs.declared.answer.ShareFault.TheVariants as share
use Rattle.shm_ref.specs.{declared.answer.LookFault.LookFault, Look.{LookLeaves, Looked, look_plan, looking}}
use Rattle.shm_ref.specs.ReadParts.{tagged}
use Rattle.shm_ref.specs.declared.answer.LookFault.TheVariants as look
use Rattle.shm_ref.proofs.RootKeeps.{share_left}
use Rattle.shm_pool.specs.{declared.reply.Reply.{Reply, TheVariants.{Died, Done}}, Called.{HasCalled, Rests}}
use Rattle.shm_pool.specs.Tokens.{Acting, Its, me_of}
use Rattle.lojarnek.specs.declared.error.Error.{Error}
use Rattle.lojarnek.specs.Blocks.{Denies, HasCome, IsRooted, KeepsRoots, OnlyRoot, StandsOn, names}
use Rattle.lojarnek.specs.Following.{Follows, HasFollowed, HasLooked, HasRooted, WhyNotFollowed, WhyUnfollowed, WhyUnrooted}
use Rattle.lojarnek.specs.{Refusing.{is_death, share_error}, Roots.{IsHolding, account_root}, Standing.{Acts, acts_of}}
use Rattle.lojarnek.specs.Setting.{HasGiven, HasHeld}
use Rattle.lojarnek.specs.declared.error.Error.TheVariants as error
use Rattle.lojarnek.proofs.{Comes.{err_came, named_here, ok_came, roots_kept, same_then}, Done.{done_lives, done_same}}
use Rattle.lojarnek.proofs.{Latches.died_ended, Setting.{ended_came, ended_done, ended_then, roots_then}}
use Rattle.lojarnek.proofs.{Shares.{share_others, share_same, share_spent}, Words.known_queues}

-- ---- a client that holds a latch still

holds_on : (a : ℕ) (t t' : Acting) → IsHolding a t → t'.of ≡ t.of → t'.dead ≡ false → Rests t' → LeavesQueues t.account.memo t'.account.memo → IsHolding a t'
holds_on a t t' at same alive rests q =
    record {
      rests = rests;
      kind = ap (λ (p : Its). p.start.tables) same ∙ at.kind;
      alive = alive;
      latch = q.latch ∙ at.latch;
      unsent = λ j. q.unsent j ∙ at.unsent j;
      untaken = λ j. q.untaken j ∙ at.untaken j;
    }

-- ---- a look

module _ (me : Me) (b j : ℕ) (r0 r : Memo) (tr : Trail) (es : List Event) where
  look_queues : (a : Result ℕ LookFault) → LookLeaves (looking me b j) r0 r tr es a → LeavesQueues r0 r
  look_queues (Ok d) h =
      let m0 : Memo = tagged b h.x r0 in
      choice (λ (x : Memo). core r ≡ core x → LeavesQueues r0 r) (d == 0) (record m0 { known = learnt (Body b j) d m0.known })
      (record m0 { looks = m0.looks ++ record { block = d; from = Body b j } ∷ []; known = learnt (Body b j) d m0.known; values = values_read m0 b j d })
      (λ e same. record { latch = ap (λ (x : Memo). x.latch) same; unsent = λ k. ap (λ (x : Memo). slice_index x.unsent k) same; untaken = λ k. ap (λ (x : Memo). slice_index x.untaken k) same; loose = ap (λ (x : Memo). is_loose x.part) same })
      (λ e same. record { latch = ap (λ (x : Memo). x.latch) same; unsent = λ k. ap (λ (x : Memo). slice_index x.unsent k) same; untaken = λ k. ap (λ (x : Memo). slice_index x.untaken k) same; loose = ap (λ (x : Memo). is_loose x.part) same })
      h.memo
  look_queues (Err (look.NoSuchRef n)) h = known_queues (learnt (Tag b) h.x r0.known) r0 r h.memo
  look_queues (Err look.NotHeld) h = known_queues (learnt (Tag b) h.x r0.known) r0 r h.memo

  look_roots : (a : Result ℕ LookFault) → LookLeaves (looking me b j) r0 r tr es a → (k : ℕ) → root_word me.who r k ≡ root_word me.who r0 k
  look_roots (Ok d) h k =
      let m0 : Memo = tagged b h.x r0 in
      ap (λ (x : Memo). root_word me.who x k) h.memo
      ∙ choice (λ (x : Memo). root_word me.who x k ≡ root_word me.who r0 k) (d == 0) (record m0 { known = learnt (Body b j) d m0.known })
      (record m0 { looks = m0.looks ++ record { block = d; from = Body b j } ∷ []; known = learnt (Body b j) d m0.known; values = values_read m0 b j d }) (λ e. refl) (λ e. refl)
  look_roots (Err (look.NoSuchRef n)) h k = ap (λ (x : Memo). root_word me.who x k) h.memo
  look_roots (Err look.NotHeld) h k = ap (λ (x : Memo). root_word me.who x k) h.memo

  look_known : (d x : ℕ) → Looked me b j r0 r tr es d → Knows r0 (Body b j) x → d ≡ x
  look_known d x h word = h.word x (Contains-append_right (record { spot = Tag b; value = h.x } ∷ []) (filter (not_at (Tag b)) r0.known) _ (Contains-filter (not_at (Tag b)) r0.known _ word refl))

look_error : ℕ → ℕ → LookFault → Error
look_error a j (look.NoSuchRef n) = error.NoSuchWord j n
look_error a j look.NotHeld = error.WrongAuthor a

module _ (t t' : Acting) (before left a b j : ℕ) (at : IsHolding a t) where
  abbrev Looks : Reply (Result ℕ LookFault) → Type 0
  Looks o = HasCalled word_control look_plan (looking (me_of t.of t.account) b j) t t' before left o

  look_on : (r : Result ℕ LookFault) → Looks (Done r) → IsHolding a t'
  look_on r h = holds_on a t t' at h.done.same.0 (done_lives r h.done) h.rests (look_queues (me_of t.of t.account) b j t.account.memo t'.account.memo _ _ r h.done.left_so)

  look_keeps : (r : Result ℕ LookFault) → Looks (Done r) → KeepsRoots (acts_of t before) (acts_of t' left)
  look_keeps r h = roots_kept t t' h.done.same.1 (look_roots (me_of t.of t.account) b j t.account.memo t'.account.memo _ _ r h.done.left_so)

  pub looked_now : (d : ℕ) → Looks (Done (Ok d)) → HasLooked a b j (acts_of t before) (acts_of t' left) (Done (Ok d))
  looked_now d h = (
    done_same (Done (Ok d)) at.alive h.done,
    look_on (Ok d) h,
    look_keeps (Ok d) h,
    (
      (λ some. subst (λ (c : ℕ). is_reached c t'.account.memo d ≡ true) (sym h.done.same.1) (h.done.left_so.reach some)),
      λ x word. look_known (me_of t.of t.account) b j t.account.memo t'.account.memo _ _ d x h.done.left_so word,
    ),
  )

  pub unlooked_now : (n : ℕ) → Looks (Done (Err (look.NoSuchRef n))) → HasLooked a b j (acts_of t before) (acts_of t' left) (Done (Err (error.NoSuchWord j n)))
  unlooked_now n h = (done_same (Done (Err (look.NoSuchRef n))) at.alive h.done, look_on (Err (look.NoSuchRef n)) h, look_keeps (Err (look.NoSuchRef n)) h, (h.done.left_so.high, refl))

  pub unheld_now : Looks (Done (Err look.NotHeld)) → HasLooked a b j (acts_of t before) (acts_of t' left) (Done (Err (error.WrongAuthor a)))
  unheld_now h = (done_same (Done (Err look.NotHeld)) at.alive h.done, look_on (Err look.NotHeld) h, look_keeps (Err look.NotHeld) h, refl)

  pub look_died : Looks Died → HasLooked a b j (acts_of t before) (acts_of t' left) Died
  look_died h = died_ended at.alive h.done h.rests

-- ---- a share

module _ (t t' : Acting) (before left a b : ℕ) (at : IsHolding a t) where
  abbrev Shares : Reply (Result ℕ ShareFault) → Type 0
  Shares o = HasCalled rooting_parts rooting_plan (rooting (me_of t.of t.account) b) t t' before left o

  abbrev c : Acts
  c = acts_of t before

  abbrev c' : Acts
  c' = acts_of t' left

  share_on : (r : Result ℕ ShareFault) → Shares (Done r) → IsHolding a t'
  share_on r h = holds_on a t t' at h.done.same.0 (done_lives r h.done) h.rests (share_left (me_of t.of t.account) b t.account.memo t'.account.memo _ _ r h.done.left_so)

  pub rooted_now : (k : ℕ) (bs bs' : List ℕ) → ((i : ℕ) → i < 16 → account_root t.account i ≡ slice_index bs i) → slice_index bs' k ≡ b → ((i : ℕ) → i ≢ k → slice_index bs' i ≡ slice_index bs i)
      → Shares (Done (Ok k)) → HasRooted a b c c' bs' (Done (Ok k))
  rooted_now k bs bs' knows here others h =
      let here' : names c' k ≡ b = named_here t t' h.done.same.1 k ∙ rooted_root (me_of t.of t.account) b k t.account.memo t'.account.memo _ _ h.done.left_so in
      let others' : OnlyRoot k c c' = λ i n. named_here t t' h.done.same.1 i ∙ share_others (me_of t.of t.account) b t.account.memo t'.account.memo _ _ k h.done.left_so i n in (
        done_same (Done (Ok k)) at.alive h.done,
        share_on (Ok k) h,
        (λ i low. elim (cases_eq i k) [
          | inl e ↦ ap (account_root t'.account) e ∙ (here' ∙ (sym here ∙ sym (ap (slice_index bs') e)))
          | inr n ↦ others' i n ∙ (knows i low ∙ sym (others i n))
        ]),
        record { low = h.done.left_so.low; empty = h.done.left_so.empty; least = h.done.left_so.before; named = here'; others = others' },
      )

  why_unshared : (f : ShareFault) → Shares (Done (Err f)) → WhyUnrooted c (share_error f)
  why_unshared (share.EraSpent e) h = (share_spent (me_of t.of t.account) b t.account.memo t'.account.memo _ _ e h.done.left_so).0
  why_unshared share.RootsFull h = h.done.left_so.all
  why_unshared (share.CountFull d n) h = h.done.left_so.full

  pub unrooted_now : (f : ShareFault) (bs : List ℕ) → ((i : ℕ) → i < 16 → account_root t.account i ≡ slice_index bs i) → Shares (Done (Err f)) → HasRooted a b c c' bs (Done (Err (share_error f)))
  unrooted_now f bs knows h =
      let same : KeepsRoots c c' = roots_kept t t' h.done.same.1 (share_same (me_of t.of t.account) b t.account.memo t'.account.memo _ _ f h.done.left_so) in
      (done_same (Done (Err f)) at.alive h.done, share_on (Err f) h, (λ i low. same i ∙ knows i low), (why_unshared f h, same))

  pub root_died : (bs : List ℕ) → Shares Died → HasRooted a b c c' bs Died
  root_died bs h = died_ended at.alive h.done h.rests

-- ---- both under one latch

why_then : (a j : ℕ) (c d : Acts) (e : Error) → KeepsRoots c d → WhyUnfollowed a j d e → WhyUnfollowed a j c e
why_then a j c d (error.NoSuchWord i n) keeps h = h
why_then a j c d (error.WrongAuthor x) keeps h = h
why_then a j c d (error.EraSpent n) keeps h = h
why_then a j c d error.RootsFull keeps h = λ k low none. h k low (keeps k ∙ none)
why_then a j c d (error.CountFull b n) keeps h = h
why_then a j c d e keeps h = absurd h

-- what isn't rooted isn't followed
unrooted_then : (a j : ℕ) (c d : Acts) (e : Error) → KeepsRoots c d → WhyUnrooted d e → WhyUnfollowed a j c e
unrooted_then a j c d (error.EraSpent n) keeps h = h
unrooted_then a j c d error.RootsFull keeps h = λ k low none. h k low (keeps k ∙ none)
unrooted_then a j c d (error.CountFull b n) keeps h = h
unrooted_then a j c d e keeps h = absurd h

-- what was rooted from d to e was so from c to f, where the roots of c and d name the same, and those of e and f
rooted_then : (c d e f : Acts) (k : ℕ) → KeepsRoots c d → IsRooted k (names e k) d e → KeepsRoots e f → IsRooted k (names f k) c f
rooted_then c d e f k before h after =
    record {
      low = h.low;
      empty = sym (before k) ∙ h.empty;
      least = λ j low none. h.least j low (before j ∙ none);
      named = refl;
      others = λ j n. after j ∙ (h.others j n ∙ before j);
    }

module _ (a b j : ℕ) (c d : Acts) (bs : List ℕ) (knows : (k : ℕ) → k < 16 → account_root c.token.account k ≡ slice_index bs k) where
  pub followed_none : HasLooked a b j c d (Done (Ok 0)) → HasFollowed a b j c d bs (Done (Ok None))
  followed_none h = (h.0, h.1, (λ k low. h.2 k ∙ knows k low), (h.2, λ x word. sym (h.3.1 x word)))

  pub followed_unlooked : (e : Error) → HasLooked a b j c d (Done (Err e)) → HasFollowed a b j c d bs (Done (Err e))
  followed_unlooked e h = (h.0, h.1, (λ k low. h.2 k ∙ knows k low), (h.3, h.2))

module _ (a b j x : ℕ) (c d e : Acts) (bs : List ℕ) (h : HasLooked a b j c d (Done (Ok x))) where
  pub followed_some : (k : ℕ) → x ≢ 0 → HasRooted a x d e bs (Done (Ok k)) → HasFollowed a b j c e bs (Done (Ok (Some k)))
  followed_some k some g = (
    same_then c d e h.0 g.0,
    g.1,
    g.2,
    (
      record {
        low = g.3.low;
        empty = sym (h.2 k) ∙ g.3.empty;
        least = λ i low none. g.3.least i low (h.2 i ∙ none);
        named = refl;
        others = λ i n. g.3.others i n ∙ h.2 i;
      },
      (λ none. some (sym g.3.named ∙ none)),
      λ y word. g.3.named ∙ h.3.1 y word,
    ),
  )

  pub followed_unrooted : (f : Error) → HasRooted a x d e bs (Done (Err f)) → HasFollowed a b j c e bs (Done (Err f))
  followed_unrooted f g = (same_then c d e h.0 g.0, g.1, g.2, (unrooted_then a j c d f h.2 g.3.0, roots_then c d e h.2 g.3.1))

  pub followed_died : HasRooted a x d e bs Died → HasFollowed a b j c e bs Died
  followed_died g = ended_then c d e h.0 g

-- ---- with the latch taken and given back

unfollowed_lives : (T : Type 0) (a j : ℕ) (c : Acts) (e : Error) → WhyUnfollowed a j c e → false ≡ is_death {T = T} (Err e)
unfollowed_lives T a j c (error.Died z) h = absurd h
unfollowed_lives T a j c e h = refl

unfollowed_denied : (a b j : ℕ) (c f : Acts) (e : Error) → WhyUnfollowed a j c e → StandsOn c f → Denies (WhyNotFollowed a b j) c f e
unfollowed_denied a b j c f (error.NoSuchWord i n) h stands = (h.0, stands, h.1)
unfollowed_denied a b j c f (error.WrongAuthor x) h stands = (stands, h)
unfollowed_denied a b j c f (error.EraSpent n) h stands = ((h, stands.roots), stands.alive)
unfollowed_denied a b j c f error.RootsFull h stands = (h, stands, tt)
unfollowed_denied a b j c f (error.CountFull x n) h stands = (h, stands, tt)
unfollowed_denied a b j c f e h stands = absurd h

module _ (a b j : ℕ) (c d e f : Acts) (bs : List ℕ) (held : HasHeld a c d (Done tt)) where
  follows_then : (o : Option ℕ) → Follows b j o d e → KeepsRoots e f → Follows b j o c f
  follows_then (Some k) h after = (
    rooted_then c d e f k held.2 h.0 after,
    (λ none. h.1 (sym (after k) ∙ none)),
    λ x word. after k ∙ h.2 x (subst (λ (ks : List Stored). Contains ks (record { spot = Body b j; value = x })) (sym held.3) word),
  )
  follows_then None h after = (roots_then c e f (roots_then c d e held.2 h.0) after, λ x word. h.1 x (subst (λ (ks : List Stored). Contains ks (record { spot = Body b j; value = x })) (sym held.3) word))

  pub follow_came : (r : Result (Option ℕ) Error) → HasFollowed a b j d e bs (Done r) → HasGiven e f (Done tt) → HasCome (λ o. Follows b j o c f) (WhyNotFollowed a b j) c f bs r
  follow_came (Ok o) h g =
      ok_came (λ (o : Option ℕ). Follows b j o c f) (WhyNotFollowed a b j) c f bs o (same_then c e f (same_then c d e held.0 h.0) g.0) g.1 (λ none alive k low. g.2 k ∙ h.2 k low) (follows_then o h.3 g.2)
  follow_came (Err x) h g =
      let why : WhyUnfollowed a j c x = why_then a j c d x held.2 h.3.0 in
      let keeps : KeepsRoots c f = roots_then c e f (roots_then c d e held.2 h.3.1) g.2 in
      err_came (λ (o : Option ℕ). Follows b j o c f) (WhyNotFollowed a b j) c f bs x (same_then c e f (same_then c d e held.0 h.0) g.0) g.1 (λ none alive k low. g.2 k ∙ h.2 k low) (unfollowed_lives (Option ℕ) a j c x why)
      (unfollowed_denied a b j c f x why (record { alive = g.1.alive; roots = keeps }))

  pub follow_died : HasFollowed a b j d e bs Died → HasCome (λ o. Follows b j o c e) (WhyNotFollowed a b j) c e bs (Err (error.Died false))
  follow_died h = ended_came (λ (o : Option ℕ). Follows b j o c e) (WhyNotFollowed a b j) c e bs (ended_then c d e held.0 h)

  -- it died in the giving back
  pub follow_kept : (r : Result (Option ℕ) Error) → HasFollowed a b j d e bs (Done r) → HasGiven e f Died → HasCome (λ o. Follows b j o c f) (WhyNotFollowed a b j) c f bs (Err (error.Died (is_ok r)))
  follow_kept (Ok o) h g =
      ended_done (λ (y : Option ℕ). Follows b j y c f) (WhyNotFollowed a b j) c f bs (ended_then c e f (same_then c d e held.0 h.0) g.0) (o, follows_then o h.3 g.1)
  follow_kept (Err x) h g = ended_came (λ (o : Option ℕ). Follows b j o c f) (WhyNotFollowed a b j) c f bs (ended_then c e f (same_then c d e held.0 h.0) g.0)
