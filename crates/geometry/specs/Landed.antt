-- Where the edges of voxels and of panel cells land on the common plane, which holds the rotation axis and lies across the slab axis: each edge is joined to the source by a line, and lands where the line meets the plane, rounded to the nearest whole number: ⌊n / d⌉ is the one nearest to n / d, halves away from zero.
-- D is the distance from the source to the rotation axis, F that from the source to the panel, and R = 16384. The cross axis is the one of x and y that is not the slab axis. (a, b) is (c, s) where the slabs are the cells of y and (s, -c) where they are the cells of x. The source stands at (-D s / R, D c / R, 0), and the panel's columns run along (c, s), its rows along z.
use Rattle.std.specs.Prelude.{ℤ, pos, ◌+ℤ◌, ◌-ℤ◌, ◌*ℤ◌, neg_ℤ}
use Rattle.geometry.specs.declared.direction.SlabAxis.{SlabAxis}
use Rattle.geometry.specs.declared.direction.SlabAxis.TheVariants.{X, Y}
use Rattle.geometry.specs.Nearest.{nearest}

-- Q: the sum of a slab's two edges, which is twice its middle, negated where the slabs are the cells of x, so that one formula serves both.
abbrev pub slab_sum : SlabAxis → ℤ → ℤ → ℤ
slab_sum Y low high = low +ℤ high
slab_sum X low high = neg_ℤ (low +ℤ high)

-- 2 D a - R Q, the divisor of U and W: 2 R times the distance along the slab axis between the source and the slab's middle, with the sign of a in every plan.
unfoldable pub depth : ℤ → ℤ → ℤ → ℤ
depth D a Q = pos 2 *ℤ D *ℤ a -ℤ pos 16384 *ℤ Q

-- F a - k b, the divisor of S: R times the distance along the slab axis between the source and the column edge k on the panel, with the sign of a in every plan; that of T is the same of 2 F and K.
unfoldable pub panel_depth : ℤ → ℤ → ℤ → ℤ → ℤ
panel_depth F a b k = F *ℤ a -ℤ k *ℤ b

-- U = ⌊D (2 e a + Q b) / (2 D a - R Q)⌉: where the edge e of the cross axis lands, from the middle of a slab.
unfoldable pub cross_edge : ℤ → ℤ → ℤ → ℤ → ℤ → ℤ
cross_edge D a b Q e = nearest (D *ℤ (pos 2 *ℤ e *ℤ a +ℤ Q *ℤ b)) (depth D a Q)

-- W = ⌊2 D a z / (2 D a - R Q)⌉: where the edge z of the z axis lands, from the middle of a slab.
unfoldable pub height_edge : ℤ → ℤ → ℤ → ℤ → ℤ
height_edge D a Q z = nearest (pos 2 *ℤ D *ℤ a *ℤ z) (depth D a Q)

-- S = ⌊D R k / (F a - k b)⌉: where the edge k of the panel's columns lands, with R² for c² + s².
unfoldable pub column_edge : ℤ → ℤ → ℤ → ℤ → ℤ → ℤ
column_edge D F a b k = nearest (D *ℤ pos 16384 *ℤ k) (panel_depth F a b k)

-- T = ⌊2 D a g / (2 F a - K b)⌉: where the edge g of the panel's rows lands, from the middle of a column whose two edges sum to K.
unfoldable pub row_edge : ℤ → ℤ → ℤ → ℤ → ℤ → ℤ → ℤ
row_edge D F a b K g = nearest (pos 2 *ℤ D *ℤ a *ℤ g) (panel_depth (pos 2 *ℤ F) a b K)
