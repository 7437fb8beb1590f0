-- Merging, as long as some equation joins two rows.
use Rattle.std.proofs.Common.{Some, ◌≡◌, ℕ, List, length, refl, sym, ◌∙◌, ap, ⊎_elim, ◌⊎◌}
use Rattle.std.proofs.lemmas.Option.{slice_get_within}
use Rattle.std.specs.Prelude.{slice_index}
use Rattle.cq_tables.specs.Content.{Content, IsWhole}
use Rattle.cq_rows.specs.Theory.{Term, Theory, IsTheory, Derives}
use Rattle.cq_rows.specs.declared.entries.Entries.{Entries}
use Rattle.cq_rows.specs.Entries.{rows_of, IsCurrent}
use Rattle.cq_rows.specs.Rows.{IsSettling, IsSound, IsImage, IsSame, HaveRows, RuleJoins, GivenJoins}
use Rattle.cq_rows.proofs.Tracing.{rule_derives, given_derives}

image_same : (m : Content) (rows : List ℕ) → IsImage m m rows rows (λ r. r) IsSame
image_same m rows = record {
  keys = refl;
  entities = refl;
  made = refl;
  live = λ r l. l;
  kind = λ r l. refl;
  cell = λ r k q l c. record { row = q; cell = c; joined = refl };
  onto = λ r l. (l, refl);
  unmade = λ r h. refl;
  rows = λ g h. refl;
  count = refl;
}

pub image_then : (a b c : Content) (rows_a rows_b rows_c : List ℕ) (f g : ℕ → ℕ) → IsImage a b rows_a rows_b f IsSame → IsImage b c rows_b rows_c g IsSame → IsImage a c rows_a rows_c (λ r. g (f r)) IsSame
image_then a b c rows_a rows_b rows_c f g i j = record {
  keys = j.keys ∙ i.keys;
  entities = j.entities ∙ i.entities;
  made = j.made ∙ i.made;
  live = λ r l. j.live (f r) (i.live r l);
  kind = λ r l. j.kind (f r) (i.live r l) ∙ i.kind r l;
  cell = λ r k q l e.
      let o = i.cell r k q l e in
      let p = j.cell (f r) k o.row (i.live r l) o.cell in
      record { row = p.row; cell = p.cell; joined = p.joined ∙ ap g o.joined };
  onto = λ r l.
      let o = j.onto r l in
      let p = i.onto r o.0 in
      (p.0, ap g p.1 ∙ o.1);
  unmade = λ r h. ap g (i.unmade r h) ∙ j.unmade r (rw i.made h);
  rows = λ x h. j.rows x (rw i.count h) ∙ ap g (i.rows x h);
  count = j.count ∙ i.count;
}

pub have_image : (s : Theory) (old m : Content) (rows_old rows : List ℕ) (rep : ℕ → ℕ) → IsImage old m rows_old rows rep IsSame → HaveRows s old rows_old → length rows_old ≡ length s.generators → HaveRows s m rows
have_image s old m rows_old rows rep i h n g e f =
    let o = h g e f in
    let at = i.rows g (rw n (slice_get_within s.generators g (Some e) f)) in
    rw at (i.live (slice_index rows_old g) o.0, i.kind (slice_index rows_old g) o.0 ∙ o.1)

pub IsSettling-start : (s : Theory) (m : Content) (e : Entries) → IsWhole m → IsCurrent m e → IsSettling s m m e e
IsSettling-start s m e w c = record { whole = w; current = c; image = (λ r. r, image_same m (rows_of e)); sound = λ terms h. h }

pub IsSettling-merged : (s : Theory) (old m m' : Content) (e_old e e' : Entries) (a b : ℕ) → IsTheory s → length (rows_of e_old) ≡ length s.generators
    → IsSettling s old m e_old e
    → RuleJoins s m a b ⊎ GivenJoins s m (rows_of e) a b
    → IsWhole m' → IsCurrent m' e'
    → (rep : ℕ → ℕ) × IsImage m m' (rows_of e) (rows_of e') rep IsSame
    → ((t : Theory) (terms : ℕ → Term) → IsSound t m (rows_of e) terms → length t.generators ≡ length (rows_of e) → Derives t (terms a) (terms b) → IsSound t m' (rows_of e') terms)
    → IsSettling s old m' e_old e'
IsSettling-merged s old m m' e_old e e' a b th n h j w' c' i snd = record {
  whole = w';
  current = c';
  image = (λ r. i.0 (h.image.0 r), image_then old m m' (rows_of e_old) (rows_of e) (rows_of e') h.image.0 i.0 h.image.1 i.1);
  sound = λ terms o.
      let p = h.sound terms o in
      snd s terms p (sym (h.image.1.count ∙ n))
      (⊎_elim (rule_derives s m (rows_of e) terms p h.whole a b) (given_derives s m (rows_of e) terms th p h.whole a b) j);
}

pub settling_then : (s : Theory) (a b c : Content) (e_a e_b e_c : Entries) → IsSettling s a b e_a e_b → IsSettling s b c e_b e_c → IsSettling s a c e_a e_c
settling_then s a b c e_a e_b e_c x y = record {
  whole = y.whole;
  current = y.current;
  image = (λ r. y.image.0 (x.image.0 r), image_then a b c (rows_of e_a) (rows_of e_b) (rows_of e_c) x.image.0 y.image.0 x.image.1 y.image.1);
  sound = λ terms h. y.sound terms (x.sound terms h);
}
