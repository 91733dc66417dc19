-- The reply to a length that is rounded.
use Rattle.std.specs.Prelude.{ℕ, ◌≡◌, ◌-◌, ◌*◌, ◌^◌}
use Rattle.std.specs.Int.{div_ceil}
use Rattle.cc_bounds.specs.Span.{from_zero}
use Rattle.cc_bounds.specs.Granule.{IsGranule}
use Rattle.cc_values.specs.declared.reply.Reply.{Reply}
use Rattle.cc_values.specs.declared.reply.Reply.TheVariants.{Rounded}

-- RoundsLength holds if the reply has the padded size of a length, its granule, and the mask that
-- clears the bits below the granule.
pub record RoundsLength (size : ℕ) (reply : Reply) : Type 0 where
  pub granule : ℕ
  pub is_granule : IsGranule (from_zero size) granule
  pub replied : reply ≡ Rounded (div_ceil size granule * granule) granule (2 ^ 64 - granule)
