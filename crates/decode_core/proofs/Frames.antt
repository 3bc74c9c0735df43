-- A frame, from what its subframes leave.
use Prim.Native.Nat.{ℕ, ◌+◌, ◌*◌, ◌≤◌}
use mathlib.Core.Path.{◌≡◌, sym, ap, ◌∙◌}
use mathlib.Core.List.{List, [], ◌++◌}
use native.Mathlib.Omega.{arith}
use lib.IntN.{ℤ, pos}
use lib.ListN.{length, take, drop, replicate, length-append, length-replicate, take-append-drop}
use lib.Seq.{take_at, take-take, length-take-le}
use mir.Syntax.{w32}
use Rattle.word.proofs.Fits.{zero_fits, replicate-fits}
use Rattle.sigproc.specs.Place.{put_at}
use Rattle.decoder.specs.Typed.{Words}
use Rattle.shape.specs.Shape.{frame_length, count_of}
use Rattle.decoder.specs.State.{shape_of}
use Rattle.decoder.specs.With.{with_gain, with_exc, with_memory, with_out_buf}
use Rattle.decoder.specs.declared.SilkDecoderState.{SilkDecoderState}
use Rattle.decoder.specs.declared.SilkDecoderControl.{SilkDecoderControl}
use Rattle.decoder.specs.declared.Params.{Params}
use Rattle.decode_core.specs.Core.{Core, subframes, setting_of, start, core_excitation, decode_core}
use Rattle.excitation.specs.Excitation.{offset_q14, excitation}
use Rattle.decode_core.specs.Ready.{held, begin, Left}
use Rattle.decode_core.specs.declared.Setting.{Setting}
use Rattle.decode_core.specs.declared.Carried.{Carried}

-- ---- silence
pub zeros-words : (z : List ℤ) → z ≡ replicate 640 (pos 0) → Words w32 640 z
zeros-words z e = record { count = ap length e ∙ length-replicate 640 (pos 0); fits = rw e (replicate-fits 640 (zero_fits w32)) }

-- ---- the memory in front
module _ (s q memory : List ℤ) (l : ℕ) (e : q ≡ replicate 96 (pos 0)) (k : length s ≡ length q) (h : l ≤ 80) where
  pub length-signal : length (take (16 + l) s) ≡ 16 + l
  length-signal = length-take-le (16 + l) s (omega (arith, ap length e, length-replicate 96 (pos 0)))

  pub memory_front : (p : List ℤ) → length p ≡ length (take (16 + l) s) → 16 ≤ length (p ++ drop (16 + l) s)
  memory_front p i = omega (arith, length-append p (drop (16 + l) s), length-signal)

  pub memory_in : s ≡ put_at q 0 memory → length memory ≡ 16 → take 16 (take (16 + l) s) ≡ memory
  unfolding put_at
  memory_in i m = take-take 16 (16 + l) s (omega arith) ∙ ap (take 16) i ∙ take_at memory _ 16 m

-- ---- the frame
module _ (f : Setting) (rows : List (List ℤ)) (exc : List ℤ) (n : ℕ) (b t : Carried) (z signal signal' past' ob ob' xq xq' memory memory' : List ℤ) where
  pub finished : z ≡ replicate f.ltp_mem_length (pos 0) → take 16 signal ≡ memory
      → held t past' signal' ob' (take (f.subfr_length * n) xq') ≡ subframes f rows exc (held b z signal ob []) n
      → drop (f.subfr_length * n) xq' ≡ drop (f.subfr_length * n) xq → memory' ≡ take 16 signal'
      → Left (subframes f rows exc (begin f b memory ob) n) t memory' ob' xq' (drop (f.subfr_length * n) xq)
  finished ez em e d e' =
      let s : held b z signal ob [] ≡ begin f b memory ob = λ i. record { control = b.control; past = ez i; memory = em i; gain = b.gain; buffer = ob; samples = [] } in
      let g = e ∙ ap (λ (x : Core). subframes f rows exc x n) s in
      let o = ap (λ (x : Core). x.samples) g in
      record {
        control = ap (λ (x : Core). x.control) g;
        gain = ap (λ (x : Core). x.gain) g;
        memory = e' ∙ ap (λ (x : Core). x.memory) g;
        buffer = ap (λ (x : Core). x.buffer) g;
        samples = sym (take-append-drop (f.subfr_length * n) xq') ∙ λ i. o i ++ d i;
      }

-- ---- the whole
pub counted : (s : SilkDecoderState) (q : Params) (f : Setting) → f ≡ setting_of (shape_of s) s q → f.nb_subfr ≡ count_of s.nb_subfr
unfolding setting_of
counted s q f hf = ap (λ (g : Setting). g.nb_subfr) hf

pub frame_of_lem : (s : SilkDecoderState) (q : Params) (f : Setting) (count : ℕ) → f ≡ setting_of (shape_of s) s q → count ≡ count_of s.nb_subfr → f.subfr_length * count ≡ frame_length (shape_of s)
unfolding setting_of
frame_of_lem s q f count hf hk = λ i. (hf i).subfr_length * hk i

-- what the subframes of a setting f play from
abbrev exc_of : Setting → Params → List ℤ → ℕ → List ℤ
exc_of f q pulses count = excitation (offset_q14 f.voiced q.quant_offset_type) pulses q.seed (f.subfr_length * count)

module _ (s : SilkDecoderState) (q : Params) (c : SilkDecoderControl) (rows : List (List ℤ)) (pulses : List ℤ) (f : Setting) (count : ℕ) (exc : List ℤ) (b r : Carried) (memory ob xq xq₀ : List ℤ)
    (hf : f ≡ setting_of (shape_of s) s q)
    (hk : count ≡ count_of s.nb_subfr)
    (he : exc ≡ exc_of f q pulses count ++ drop (f.subfr_length * count) s.exc_q14)
    (hc : b.control ≡ c)
    (hg : b.gain ≡ s.prev_gain_q16)
    (l : Left (subframes f rows (exc_of f q pulses count) (begin f b s.s_lpc_q14_buf s.out_buf) count) r memory ob xq (drop (f.subfr_length * count) xq₀)) where
  excitation-is : exc_of f q pulses count ≡ core_excitation (shape_of s) q pulses
  unfolding core_excitation setting_of
  excitation-is =
      λ i. excitation (offset_q14 (hf i).voiced q.quant_offset_type) pulses q.seed (frame_of_lem s q f count hf hk i)

  whole : subframes f rows (exc_of f q pulses count) (begin f b s.s_lpc_q14_buf s.out_buf) count ≡ subframes (setting_of (shape_of s) s q) rows (core_excitation (shape_of s) q pulses) (start (shape_of s) s c) (count_of s.nb_subfr)
  unfolding setting_of start
  whole =
      λ i. subframes (hf i) rows (excitation-is i) (record { control = hc i; past = replicate (hf i).ltp_mem_length (pos 0); memory = s.s_lpc_q14_buf; gain = hg i; buffer = s.out_buf; samples = [] }) (hk i)

  excited : exc ≡ core_excitation (shape_of s) q pulses ++ drop (frame_length (shape_of s)) s.exc_q14
  excited = he ∙ λ i. excitation-is i ++ drop (frame_of_lem s q f count hf hk i) s.exc_q14

  pub decoded_state : with_out_buf (with_memory (with_exc (with_gain s r.gain) exc) memory) ob ≡ (decode_core (shape_of s) s q c rows pulses).state
  unfolding decode_core
  decoded_state =
      let g = l.gain ∙ ap (λ (x : Core). x.gain) whole in
      let m = l.memory ∙ ap (λ (x : Core). x.memory) whole in
      let o = l.buffer ∙ ap (λ (x : Core). x.buffer) whole in
      λ i. with_out_buf (with_memory (with_exc (with_gain s (g i)) (excited i)) (m i)) (o i)

  pub decoded_control : r.control ≡ (decode_core (shape_of s) s q c rows pulses).control
  unfolding decode_core
  decoded_control = l.control ∙ ap (λ (x : Core). x.control) whole

  pub decoded-samples : xq ≡ (decode_core (shape_of s) s q c rows pulses).samples ++ drop (frame_length (shape_of s)) xq₀
  unfolding decode_core
  decoded-samples =
      let o = ap (λ (x : Core). x.samples) whole in
      let d = frame_of_lem s q f count hf hk in
      l.samples ∙ λ i. o i ++ drop (d i) xq₀
