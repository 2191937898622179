-- The cases of the micro report and its edges, computed over the definition: 1/128 is 7812.5 millionths, exactly half way, and reports the even 7812; 3/128 is 23437.5 and reports 23438. Assumes nothing.
use Rattle.std.proofs.Common.{◌≡◌, pos, neg_ℤ, refl}
use lib.Ieee.{binary32, of_bits}
use Rattle.floats.specs.MicroReport.{micro_report_of}
use Rattle.floats.specs.declared.micro_report.MicroReport.TheVariants.{Whole, Over, Nan}

pub half_down : micro_report_of (of_bits binary32 0x3C00_0000) ≡ Whole (pos 7812)
unfolding micro_report_of of_bits
half_down = refl

pub half_up : micro_report_of (of_bits binary32 0x3CC0_0000) ≡ Whole (pos 23438)
unfolding micro_report_of of_bits
half_up = refl

pub half-negative : micro_report_of (of_bits binary32 0xBC00_0000) ≡ Whole (neg_ℤ (pos 7812))
unfolding micro_report_of of_bits
half-negative = refl

-- -0 and -2 ^ -149 are a plain 0
pub negative-zero : micro_report_of (of_bits binary32 0x8000_0000) ≡ Whole (pos 0)
unfolding micro_report_of of_bits
negative-zero = refl

pub least-negative : micro_report_of (of_bits binary32 0x8000_0001) ≡ Whole (pos 0)
unfolding micro_report_of of_bits
least-negative = refl

-- the last number that is not Over, and the first that is, of either sign
pub last-whole : micro_report_of (of_bits binary32 0x4506_37BD) ≡ Whole (pos 2147483643)
unfolding micro_report_of of_bits
last-whole = refl

pub first-over : micro_report_of (of_bits binary32 0x4506_37BE) ≡ Over
unfolding micro_report_of of_bits
first-over = refl

pub first-over-below : micro_report_of (of_bits binary32 0xC506_37BE) ≡ Over
unfolding micro_report_of of_bits
first-over-below = refl

pub infinity : micro_report_of (of_bits binary32 0x7F80_0000) ≡ Over
unfolding micro_report_of of_bits
infinity = refl

pub not_a_number : micro_report_of (of_bits binary32 0x7FC0_0000) ≡ Nan
unfolding micro_report_of of_bits
not_a_number = refl
