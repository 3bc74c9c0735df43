-- Frames played one behind the other into a buffer.
use Prim.Native.Nat.{ℕ, ◌+◌, ◌*◌, ◌≤◌, ◌<◌}
use mathlib.Core.Path.{◌≡◌, refl, sym, ap, ◌∙◌}
use mathlib.Core.List.{List, ◌∷◌, ◌++◌, append_assoc, append-nil, map}
use native.Mathlib.Omega.{arith}
use native.Mathlib.Numerals.{add-one}
use lib.IntN.{ℤ}
use lib.ListN.{length, get_or, take, drop, length-append, take-append-drop, drop_of_length-le}
use lib.Seq.{drop-drop, drop-cons, length-take-le, take_at, drop_at}
use Rattle.sigproc.specs.Place.{put_at}
use Rattle.shape.specs.Shape.{shape, frame_length}
use Rattle.decoder.specs.declared.SilkDecoderState.{SilkDecoderState}
use Rattle.decode_frame.specs.Call.{shape_at}
use Rattle.record.specs.Recorded.{Recorded, lost, received}
use Rattle.recording.specs.Frames.{recorded_at}
use Rattle.playback.specs.Playback.{call_of, sound_of, samples_from}

shape_of : (khz nb : ℤ) (x : Recorded) → shape_at (call_of khz nb x) ≡ shape khz nb
unfolding call_of
shape_of khz nb lost = refl
shape_of khz nb (received q c rows lines pulses) = refl

module _ (khz nb : ℤ) (s₀ : SilkDecoderState) (b r : List ℕ) (out₀ : List ℤ) where
  -- k frames are played: their samples, and the rest of the buffer as it was
  pub record Played (out : List ℤ) (s : SilkDecoderState) (at k : ℕ) : Type 0 where
    pub room : at ≤ 320 * k
    pub long : length out ≡ length out₀
    pub behind : drop at out ≡ drop at out₀
    pub so_far : samples_from khz nb s₀ (map (recorded_at b) r) ≡ take at out ++ samples_from khz nb s (map (recorded_at b) (drop k r))

  pub none-played : Played out₀ s₀ 0 0
  none-played = record { room = omega arith; long = refl; behind = refl; so_far = refl }

  -- one frame more, of m samples
  module _ (out : List ℤ) (s : SilkDecoderState) (at k m : ℕ) (samples : List ℤ) (l : k < length r) (e : m ≡ frame_length (shape khz nb)) (f : m ≤ 320) (g : length samples ≡ 320) (c : at + m ≤ length out) (p : Played out s at k) where
    abbrev front : List ℤ
    front = take at out ++ take m samples

    front_long : length front ≡ at + m
    front_long =
        length-append (take at out) (take m samples)
        ∙ (λ i. length-take-le at out (omega arith) i + length-take-le m samples (omega arith) i)

    put_is : put_at out at (take m samples) ≡ front ++ drop (at + m) out
    unfolding put_at
    put_is = ap (λ (j : ℕ). front ++ drop (at + j) out) (length-take-le m samples (omega arith))

    pub one_more : (next : SilkDecoderState) → record { state = next; samples = samples } ≡ sound_of s (call_of khz nb (recorded_at b (get_or r k 0))) → length (put_at out at (take m samples)) ≡ length out
        → Played (put_at out at (take m samples)) next (at + m) (k + 1)
    unfolding samples_from
    one_more next q t =
        let x = recorded_at b (get_or r k 0) in
        let d : drop k r ≡ get_or r k 0 ∷ drop (k + 1) r =
        drop-cons r k 0 l ∙ (λ i. get_or r k 0 ∷ drop (sym (add-one k) i) r) in
        let z : m ≡ frame_length (shape_at (call_of khz nb x)) = e ∙ ap frame_length (sym (shape_of khz nb x)) in
        let y = map (recorded_at b) (drop (k + 1) r) in
        record {
          room = omega (arith, p.room);
          long = t ∙ p.long;
          behind =
              ap (drop (at + m)) put_is ∙ drop_at front (drop (at + m) out) (at + m) front_long
              ∙ sym (drop-drop m at out) ∙ ap (drop m) p.behind ∙ drop-drop m at out₀;
          so_far =
              p.so_far ∙ ap (λ (ks : List ℕ). take at out ++ samples_from khz nb s (map (recorded_at b) ks)) d
              ∙ (λ i. take at out ++ (take (sym z i) (sym q i).samples ++ samples_from khz nb (sym q i).state y))
              ∙ sym (append_assoc (take at out) (take m samples) (samples_from khz nb next y))
              ∙ ap (λ (w : List ℤ). w ++ samples_from khz nb next y) (sym (ap (take (at + m)) put_is ∙ take_at front (drop (at + m) out) (at + m) front_long));
        }

  -- all frames are played
  module _ (out : List ℤ) (s : SilkDecoderState) (at k : ℕ) (e : k ≡ length r) (c : at ≤ length out) (p : Played out s at k) where
    all-is : samples_from khz nb s₀ (map (recorded_at b) r) ≡ take at out
    unfolding samples_from
    all-is =
        p.so_far
        ∙ ap (λ (ks : List ℕ). take at out ++ samples_from khz nb s (map (recorded_at b) ks)) (drop_of_length-le r {i = k} (omega (arith, e)))
        ∙ append-nil (take at out)

    pub all_count : at ≡ length (samples_from khz nb s₀ (map (recorded_at b) r))
    all_count = sym (ap length all-is ∙ length-take-le at out c)

    pub all_played : out ≡ samples_from khz nb s₀ (map (recorded_at b) r) ++ drop at out₀
    all_played = sym (take-append-drop at out) ∙ (λ i. sym all-is i ++ p.behind i)
