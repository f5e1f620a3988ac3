mod RingPairs
