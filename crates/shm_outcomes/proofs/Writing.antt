-- the words of a block that was allocated
use Rattle.std.proofs.Common.{◌≡◌, ℕ, ◌+◌, ◌<◌, List, length, sym, ap, ◌∙◌, subst}
use Rattle.std.proofs.lemmas.List.{Elements.Contains-append_left, get_or-take}
use Rattle.std.specs.{Prelude.{Ok, slice_index}, List.Contains}
use Rattle.shm_alloc.specs.declared.request.{Near.Near, Request.Request}
use Rattle.shm_count.specs.declared.answer.Made.{Made}
use Rattle.shm_graph.specs.declared.{ask.Me.Me, memo.Stored.Stored, spot.Spot.TheVariants.{Body, Tag}}
use Rattle.shm_pool.specs.{declared.reply.Reply.TheVariants.Done, Called.HasAllocatedNear, Tokens.{Acting, me_of}}
use Rattle.shm_words.specs.Tags.{tag_word}
use Rattle.shm_outcomes.specs.Written.{IsWritten}

module _ (n : ℕ) (xs : List ℕ) (near : Near) (t t' : Acting) (before left : ℕ) (x : Made) (h : HasAllocatedNear n xs near t t' before left (Done (Ok x))) where
  abbrev me : Me
  me = me_of t.of t.account

  abbrev q : Request
  q = h.machine.request

  abbrev known : List Stored
  known = t'.account.memo.known

  -- what was prepared is known
  here : (y : Stored) → Contains h.done.left_so.holds.gives.knows.0.words y → Contains known y
  here y at =
      let made = h.done.left_so.holds.gives.knows in
      subst (λ (ks : List Stored). Contains ks y) (sym made.1) (Contains-append_left made.0.words t.account.memo.known y at)

  pub allocated : IsWritten me n xs x.block t'.account.memo
  allocated =
      let a = h.asked in
      let made = h.done.left_so.holds.gives.knows in
      let tagged : tag_word h.machine.me.geometry.wide (record { refs = q.refs; plain = q.count; author = h.machine.me.who; link = 0 }) ≡ tag_word me.geometry.wide (record { refs = n; plain = length xs; author = me.who; link = 0 }) =
      (λ i. tag_word (a.of i).geometry.wide (record { refs = a.refs i; plain = a.count i; author = (a.of i).who; link = 0 })) in record {
        tag = here _ (subst (λ (z : ℕ). Contains made.0.words (record { spot = Tag x.block; value = z })) tagged made.2.tag);
        references = λ i low. here _ (made.2.zeros i (subst (λ (z : ℕ). i < z) (sym a.refs) low));
        words = λ i low.
            let same : slice_index q.plain i ≡ slice_index xs i = sym (get_or-take (length xs) q.plain i 0 low) ∙ ap (λ (ys : List ℕ). slice_index ys i) a.plain in
            here _ (subst (λ (z : ℕ). Contains made.0.words (record { spot = Body x.block (z + i); value = slice_index xs i })) a.refs
            (subst (λ (z : ℕ). Contains made.0.words (record { spot = Body x.block (q.refs + i); value = z })) same (made.2.words i (subst (λ (z : ℕ). i < z) (sym a.count) low))));
      }
