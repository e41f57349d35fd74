-- Moments (RFC 1094, 2.3.4).
use Rattle.std.specs.Prelude.{Bool, ◌&&◌, ◌||◌, ◌==◌, nat_lt}
use Rattle.nfs2_types.specs.declared.time.Time.{Time}

-- a second has a million microseconds
abbrev pub is_time : Time → Bool
is_time t = nat_lt t.micros 1000000

-- one moment lies before another
abbrev pub is_before : Time → Time → Bool
is_before a b = nat_lt a.secs b.secs || (a.secs == b.secs && nat_lt a.micros b.micros)
