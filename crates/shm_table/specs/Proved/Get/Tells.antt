-- what a latch that was taken and a search say of maps, and reading what a key has: of the own map, and in a held state of that of the author: what is proved of it
use Rattle.std.proofs.Common.{◌≡◌, ℕ, ◌<◌, refl, sym, ap, ◌∙◌, subst}
use Rattle.std.specs.Prelude.{Some, None, List}
use Rattle.shm_graph.specs.{declared.{ask.Me.Me, memo.Memo.Memo, spot.Spot.{Spot, TheVariants.Body}}, Asks.Trail}
use Rattle.shm_graph.specs.{Events.Event, Held.HeldAt, Views.view}
use Rattle.plans.specs.{declared.or.Or.TheVariants.Second, CallsControl.calls_of, CallsFit.CallsFits}
use Rattle.plans.specs.Words.{word_control}
use Rattle.kind_parts.specs.Reparting.{map_in}
use Rattle.shm_table.specs.declared.{find.Found.TheVariants.{Absent, At}, get.GetPoint.TheVariants.Known}
use Rattle.shm_table.specs.{declared.get.GetState.GetState, Find.{IsLook, Tells.HasRead}}
use Rattle.shm_table.specs.Proved.Find.Tells.{absent_tells, author_maps, author_names, found_tells, has_read}
use Rattle.shm_table.specs.Get.{Control.{GetCalls, GetCall, get_parts}, GetKnows, IsAt, IsTold, get_plan, number_trail}
use Rattle.shm_table.specs.{Get.Tells.{HasNamed, IsReady}, Locate.Located, Unlatch.unlatch_plan}
use Rattle.shm_table.specs.Unlatch.Control.{UnlatchCalls, unlatching, unlatch_steered}

-- ---- the latch and the search

pub located_absent : (me : Me) (a key home first : ℕ) (r0 r : Memo) (tr : Trail) (es : List Event) → a ≡ me.who → Located me a key r0 r tr es (Absent home first) → map_in r0.part key ≡ None
located_absent me a key home first r0 r tr es own h = ap (λ (x : Memo). map_in x.part key) (sym h.took.memo) ∙ absent_tells me a key home first h.latched r h.after es h.found own

pub located_found : (me : Me) (a key entry before word : ℕ) (r0 r : Memo) (tr : Trail) (es : List Event) → a ≡ me.who → Located me a key r0 r tr es (At entry before word) → (n : ℕ) × (v : ℕ) × (map_in r0.part key ≡ Some (n, v))
located_found me a key entry before word r0 r tr es own h =
    let f = found_tells me a key entry before word h.latched r h.after es h.found own in
    (f.0, f.1, ap (λ (x : Memo). map_in x.part key) (sym h.took.memo) ∙ f.2)

pub located_read : (me : Me) (a key entry before word : ℕ) (r0 r : Memo) (tr : Trail) (es : List Event) → Located me a key r0 r tr es (At entry before word) → HasRead a r key entry
located_read me a key entry before word r0 r tr es h = has_read me a key entry before word h.latched r h.after es h.found

-- ---- what a key has

-- then the memo shows the chain up to the entry, and its value word
pub named_shown : (m : GetCalls) (r0 r : Memo) (tr : Trail) → CallsFits get_parts get_plan m r0 r tr → HasNamed m → (m.plan.me.who < m.plan.me.geometry.clients) × HasRead m.plan.author r m.plan.key m.plan.entry × IsLook r (Body m.plan.entry 1) m.plan.block
named_shown m r0 r tr fit named =
    let k = subst (λ y. GetKnows m.plan y r0 fit.rs fit.before fit.es) named.point fit.knows in
    let begun : r ≡ fit.rs = (subst (λ (c : GetCall). (get_plan.part m.plan).fits c fit.rs r fit.t) named.call fit.fits).same in
    (k.0.reading.may.who, subst (λ (x : Memo). HasRead m.plan.author x m.plan.key m.plan.entry) (sym begun) k.0.has, subst (λ (x : Memo). IsLook x (Body m.plan.entry 1) m.plan.block) (sym begun) k.1)

-- and in each held state with that memo the author's map has the block at the key, with the number in its word
pub named_maps : (m : GetCalls) (r0 r : Memo) (tr : Trail) → CallsFits get_parts get_plan m r0 r tr → HasNamed m
    → (w : Spot → ℕ) (rs : ℕ → Memo) → HeldAt m.plan.me.geometry w (view rs) → rs m.plan.me.who ≡ r → map_in (rs m.plan.author).part m.plan.key ≡ Some (w (Body m.plan.block 0), m.plan.block)
named_maps m r0 r tr fit named w rs h same =
    let k = named_shown m r0 r tr fit named in
    author_names m.plan.me m.plan.author m.plan.key m.plan.entry m.plan.block r k.1 k.2 k.0 w rs h same

-- what is known at that point
known_at : (m : GetState) (r0 r : Memo) (tr : Trail) (es : List Event) → m.point ≡ Known → GetKnows m m.point r0 r tr es → IsAt m.me m.author m.key m.entry (number_trail m.entry m.block m.number) r0 r tr es × IsTold m.author m.key m.entry m.number m.block r
known_at m r0 r tr es e h = subst (λ y. GetKnows m y r0 r tr es) e h

-- the giving back of the latch has made no word step yet: the memo is the one before it
not_begun : (me : Me) (a : ℕ) (u : UnlatchCalls) (r0 r : Memo) (t : Trail) → u ≡ calls_of unlatch_steered (unlatching me a) → CallsFits word_control unlatch_plan u r0 r t → r ≡ r0
not_begun me a u r0 r t e fit = go (subst (λ (x : UnlatchCalls). CallsFits word_control unlatch_plan x r0 r t) e fit)
  where
    go : CallsFits word_control unlatch_plan (calls_of unlatch_steered (unlatching me a)) r0 r t → r ≡ r0
    go f = f.fits.same ∙ f.knows.1

-- then the memo shows the chain, the value word and the number
pub ready_told : (m : GetCalls) (r0 r : Memo) (tr : Trail) → CallsFits get_parts get_plan m r0 r tr → IsReady m
    → (m.plan.me.who < m.plan.me.geometry.clients) × IsTold m.plan.author m.plan.key m.plan.entry m.plan.number m.plan.block r
ready_told m r0 r tr fit ready =
    let k = known_at m.plan r0 fit.rs fit.before fit.es ready.point fit.knows in
    let same : r ≡ fit.rs = begun (subst (λ y. (get_plan.part (record m.plan { point = y })).fits (Second (Second (calls_of unlatch_steered (unlatching m.plan.me m.plan.author)))) fit.rs r fit.t) ready.point (subst (λ (c : GetCall). (get_plan.part m.plan).fits c fit.rs r fit.t) ready.call fit.fits)) in
    (k.0.reading.may.who, subst (IsTold m.plan.author m.plan.key m.plan.entry m.plan.number m.plan.block) (sym same) k.1)
  where
    begun : CallsFits word_control unlatch_plan (calls_of unlatch_steered (unlatching m.plan.me m.plan.author)) fit.rs r fit.t → r ≡ fit.rs
    begun f = not_begun m.plan.me m.plan.author (calls_of unlatch_steered (unlatching m.plan.me m.plan.author)) fit.rs r fit.t refl f

-- and in each held state with that memo the author's map has the number and the value block at the key
pub ready_maps : (m : GetCalls) (r0 r : Memo) (tr : Trail) → CallsFits get_parts get_plan m r0 r tr → IsReady m
    → (w : Spot → ℕ) (rs : ℕ → Memo) → HeldAt m.plan.me.geometry w (view rs) → rs m.plan.me.who ≡ r → map_in (rs m.plan.author).part m.plan.key ≡ Some (m.plan.number, m.plan.block)
ready_maps m r0 r tr fit ready w rs h same =
    let k = ready_told m r0 r tr fit ready in
    author_maps m.plan.me m.plan.author m.plan.key m.plan.entry m.plan.block m.plan.number r k.1.has k.1.look k.1.number k.0 w rs h same
