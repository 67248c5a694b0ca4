use Rattle.std.proofs.Common.{◌≡◌, ℕ, ◌<◌, ◌⊎◌, inl, inr, sym, ap, ◌∙◌, subst, below_more}
use Rattle.std.specs.Prelude.{slice_index}
use Rattle.shm_words.specs.{declared.geometry.Geometry.Geometry, Layout.{address, total_of}}
use Rattle.shm_words.specs.declared.place.Place.TheVariants as place
use Rattle.shm_graph.specs.declared.memo.Status.TheVariants.{New, Gone}
use Rattle.shm_plain.specs.Pools.{memo_of}
use Rattle.shm_plain.proofs.Stilling.{out_by, status_below, status_read, still_word}
use Rattle.shm_plain.proofs.pool.PlainPool.is_still.Goals.{After-status, After-word-status, else-status-ne0-via-then-status-ne0+else-status-ne3, else-status-ne0-via-else-status-ne0}
use Rattle.shm_plain.proofs.pool.PlainPool.is_still.Goals as goal

-- the identity is one of the pool, and its word was read
below : (c : After-status) → c.loop-who.who < c.args.self.now.start.geometry.clients
below c = subst (λ (n : ℕ). c.loop-who.who < n) (c.clients-who-end.ensures ∙ ap (λ (g : Geometry). g.clients) c.geometry-geometry.ensures.is) c.loop-who-test.true

address_is : (c : After-status) → c.status.result ≡ address c.args.self.now.start.geometry (place.Status c.loop-who.who)
address_is c = c.status.ensures ∙ ap (λ (g : Geometry). address g (place.Status c.loop-who.who)) c.geometry-geometry.ensures.is

read : (c : After-word-status) → c.word-status.result ≡ slice_index c.args.self.now.words (address c.args.self.now.start.geometry (place.Status c.loop-who.who))
read c = c.word-status.ensures.is ∙ ap (slice_index c.args.self.now.words) (address_is (goal.at.After-word-status c).After-status)

pub word-status-requires : goal.word-status-requires
word-status-requires c =
    let at = (goal.at.word-status-requires c).After-status in
    let p = c.args.self.now in
    subst (λ (a : ℕ). a < total_of p.start.geometry) (sym (address_is at)) (status_below p c.loop-who.who (below at))

pub returns-then-status-ne3 : goal.returns-then-status-ne3
returns-then-status-ne3 c =
    let at = (goal.at.returns-then-status-ne3 c).After-word-status in (
      λ e. absurd (cc),
      λ still. elim (still_word c.args.self.now c.loop-who.who c.geometry-geometry.ensures.run (below (goal.at.After-word-status at).After-status) still) [
        | inl z ↦ absurd (c.if-status-ne0.true (read at ∙ z))
        | inr z ↦ absurd (c.if-status-ne3.true (read at ∙ z))
      ],
    )

pub loop-who-preserved : goal.loop-who-preserved
loop-who-preserved c =
    let at = (goal.at.loop-who-preserved c).After-word-status in
    let p = c.args.self.now in
    let is = status_read p c.loop-who.who c.geometry-geometry.ensures.run (below (goal.at.After-word-status at).After-status) ∙ sym (read at) in
    below_more (λ (d : ℕ). ((memo_of p d).status ≡ New) ⊎ ((memo_of p d).status ≡ Gone)) _ c.loop-who.invariant
    (out_by (memo_of p c.loop-who.who).status
    (elim c.else-status-ne0.branch [
      | else-status-ne0-via-then-status-ne0+else-status-ne3 w ↦ inr (is ∙ w.if-status-ne3.false)
      | else-status-ne0-via-else-status-ne0 w ↦ inl (is ∙ w.if-status-ne0.false)
    ]))
